-- What a demand curve means, and the laws that every curve keeps. Assumes nothing.
use Rattle.std.specs.Prelude.{◌≡◌, ℕ, ◌-◌, ◌*◌, ◌≤◌}

-- the largest quantity, in kW
abbrev pub ceiling : ℕ
ceiling = 200000000

-- `demand p` is the capacity wanted at the price p. `area q` is the running area under the curve up to the place q, a
-- whole quantity up to the ceiling, counted in parts of a pence-kW of which `parts` make one.
pub record Meaning : Type 0 where
  pub parts : ℕ
  pub demand : ℕ → ℕ
  pub area : ℕ → ℕ

-- the area between two places; `grows` below says that the subtraction is exact
abbrev pub area_between : Meaning → ℕ → ℕ → ℕ
area_between m x y = m.area y - m.area x

pub record Laws (m : Meaning) : Type 0 where
  pub some : 1 ≤ m.parts
  pub free : m.demand 0 ≡ ceiling
  pub most : (p : ℕ) → m.demand p ≤ ceiling
  pub falls : (p q : ℕ) → p ≤ q → m.demand q ≤ m.demand p
  pub grows : (x y : ℕ) → x ≤ y → y ≤ ceiling → m.area x ≤ m.area y
  pub beyond : (p x y : ℕ) → m.demand p ≤ x → x ≤ y → y ≤ ceiling → area_between m x y ≤ p * m.parts * (y - x)
