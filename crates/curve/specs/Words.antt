-- The two words in which the layers above speak of demand, and what they may use of them. Assumes nothing.
use Rattle.std.specs.Prelude.{◌≡◌, ℕ, ◌-◌, ◌*◌, ◌<◌, ◌≤◌, Bool, true, false, ◌⊎◌, ◌==◌, nat_le}
use Rattle.curve.specs.Meaning.{Meaning, area_between, ceiling}

-- a sum of capacities s is no more than what is wanted at the price p
unfoldable pub within : Meaning → ℕ → ℕ → Bool
within m p s = nat_le s (m.demand p)

-- a sum of capacities s is just what is wanted at the price p
unfoldable pub exactly : Meaning → ℕ → ℕ → Bool
exactly m p s = s == m.demand p

pub record Words (m : Meaning) : Type 0 where
  pub free : (s : ℕ) → s ≤ ceiling → within m 0 s ≡ true
  pub most : (p s : ℕ) → within m p s ≡ true → s ≤ ceiling
  pub smaller : (p s t : ℕ) → s ≤ t → within m p t ≡ true → within m p s ≡ true
  pub cheaper : (p q s : ℕ) → p ≤ q → within m q s ≡ true → within m p s ≡ true
  pub exact : (p s : ℕ) → exactly m p s ≡ true → within m p s ≡ true
  pub past : (p q s t : ℕ) → exactly m p s ≡ true → s < t → p ≤ q → within m q t ≡ false
  pub beyond : (p s t : ℕ) → (within m p s ≡ false) ⊎ (exactly m p s ≡ true) → s ≤ t → t ≤ ceiling → area_between m s t ≤ p * m.parts * (t - s)
