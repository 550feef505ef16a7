-- What weighing answers: how the area between two places compares with a sum. Assumes nothing.
use Rattle.std.specs.Prelude.{◌≡◌, ℕ, cond, ◌&&◌, List, [], ◌∷◌, ℤ, pos, negsuc, ◌*ℤ◌, Ok, Err, Result, int_lt, nat_le}
use Rattle.curve.specs.declared.refusal.CurveRefusal.{CurveRefusal}
use Rattle.curve.specs.declared.sign.Sign.{Sign}
use Rattle.curve.specs.declared.sign.Sign.TheVariants.{Below, Level, Above}
use Rattle.curve.specs.Meaning.{Meaning, area_between, ceiling}
use Rattle.curve.specs.Questions.{Question, question, refused, first_no}

abbrev pub sign_number : Sign → ℤ
sign_number Below = negsuc 0
sign_number Level = pos 0
sign_number Above = pos 1

-- -1, 0 or +1 as x is below, equal to or above y
abbrev pub compared : ℤ → ℤ → ℤ
compared x y = cond (int_lt x y) (negsuc 0) (cond (int_lt y x) (pos 1) (pos 0))

-- the one question of weighing: are the places in order and up to the ceiling?
abbrev pub place_questions : ℕ → ℕ → List Question
place_questions x y = record { number = 5; yes = nat_le x y && nat_le y ceiling } ∷ []

-- of a sign: it is that of the area between the places against the sum, which counts in whole pence-kW
abbrev pub Tells : Meaning → ℕ → ℕ → ℤ → Result Sign CurveRefusal → Type 0
Tells m x y s (Ok g) = sign_number g ≡ compared (pos (area_between m x y)) (s *ℤ pos m.parts)
Tells m x y s (Err e) = Unit {0}

abbrev pub Weighed : Meaning → ℕ → ℕ → ℤ → Result Sign CurveRefusal → Type 0
Weighed m x y s r = (refused question r ≡ first_no (place_questions x y)) × Tells m x y s r
