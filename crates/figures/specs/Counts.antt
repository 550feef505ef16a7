-- What counting a figure makes of a tally.
use Rattle.std.specs.Prelude.{◌≡◌, ℕ, ◌+◌, ◌-◌, ◌^◌, min, Bool, cond, Decides}
use Rattle.figures.specs.declared.tally.Tally.{Tally}

-- one more, up to the largest number that there is room for
abbrev pub one_more : ℕ → ℕ
one_more n = min (n + 1) (2 ^ 32 - 1)

abbrev pub counted : Tally → Bool → Tally
counted t agrees = record { shown = one_more t.shown; agree = cond agrees (one_more t.agree) t.agree }

-- a figure was counted, as one that agrees just where P holds
pub record CountedFor (P : Type 0) (before after : Tally) : Type 0 where
  pub agrees : Bool
  pub rightly : Decides agrees P
  pub is : after ≡ counted before agrees
