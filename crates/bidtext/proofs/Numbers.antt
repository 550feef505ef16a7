-- Numbers that are read digit by digit, up to a limit. Assumes nothing.
use Rattle.std.proofs.Common.{◌≡◌, ℕ, ◌+◌, ◌-◌, ◌*◌, ◌≤◌, List, [], ◌∷◌, min, sym, ◌∙◌, arith}
use Rattle.std.specs.List.{fold}
use Rattle.bidtext.specs.Values.{value_after}

-- one digit more
abbrev pub more : ℕ → ℕ → ℕ
more n b = min (min (min (n * 10) 4294967295 + (b - 48)) 4294967295) 268435456

step : (m n b : ℕ) → min m 268435456 ≡ min n 268435456 → min (more m b) 268435456 ≡ min (n * 10 + (b - 48)) 268435456
step m n b e = omega arith

-- numbers that agree up to the limit go on to agree
pub folded : (m n : ℕ) (bs : List ℕ) → m ≤ 268435456 → min m 268435456 ≡ min n 268435456 → fold more m bs ≡ min (value_after n bs) 268435456
folded m n [] le e = omega arith
folded m n (b ∷ bs) le e = folded (more m b) (n * 10 + (b - 48)) bs (omega arith) (step m n b e)

-- two numbers that are one up to the limit stay so with the same digits behind them
pub agree : (m n : ℕ) (bs : List ℕ) → min m 268435456 ≡ min n 268435456 → min (value_after m bs) 268435456 ≡ min (value_after n bs) 268435456
agree m n bs e =
    sym (folded (min m 268435456) m bs (omega arith) (omega arith)) ∙ folded (min m 268435456) n bs (omega arith) (omega arith)
