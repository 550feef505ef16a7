-- The laws of an order: `ahead a b` says that a is ahead of b.
use Rattle.std.specs.Prelude.{◌≡◌, ℕ, Bool, true, false, ◌⊎◌, ◌≢◌}

pub record Laws {X : Type 0} (unit : X → ℕ) (ahead : X → X → Bool) : Type 0 where
  -- never both ways round
  pub one_way : (a b : X) → ahead a b ≡ true → ahead b a ≡ false
  -- ahead carries through a third
  pub through : (a b c : X) → ahead a b ≡ true → ahead b c ≡ true → ahead a c ≡ true
  -- of two items with different unit numbers one is ahead
  pub decided : (a b : X) → (unit a ≢ unit b) → (ahead a b ≡ true) ⊎ (ahead b a ≡ true)
