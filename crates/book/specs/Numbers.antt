-- What a number names. Assumes nothing.
use Rattle.std.specs.Prelude.{◌≡◌, ℕ, Some, None, Option, Result, MatchResult}
use Rattle.book.specs.declared.class.UnknownNumber.{UnknownNumber}

-- r is what f has under the number, or the number itself if f has nothing there
abbrev pub IsNumbered : {X : Type 0} → (ℕ → Option X) → ℕ → Result X UnknownNumber → Type 0
IsNumbered f n r = MatchResult r (λ x. f n ≡ Some x) (λ unknown. (f n ≡ None) × (unknown.0 ≡ n))
