-- The words that stand for an answer in what is printed.
use Rattle.std.specs.Prelude.{ℕ, Bool, true, false, List, Option, Some, None, codes}
use Rattle.curve.specs.declared.sign.Sign.{Sign}
use Rattle.curve.specs.declared.sign.Sign.TheVariants.{Below, Level, Above}

abbrev pub verdict_text : Bool → List ℕ
verdict_text true = codes "agrees"
verdict_text false = codes "DIFFERS"

-- how an area compares with a sum
abbrev pub sign_text : Sign → List ℕ
sign_text Below = codes "below"
sign_text Level = codes "level with"
sign_text Above = codes "above"

-- how it compares, if it may be weighed
abbrev pub found_text : Option Sign → List ℕ
found_text (Some sign) = sign_text sign
found_text None = codes "refused against"
