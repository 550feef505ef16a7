-- What demand and area have to be, given the price at each place. Assumes nothing.
use Rattle.std.specs.Prelude.{◌≡◌, ℕ, ◌+◌, ◌-◌, ◌*◌, ◌<◌, ◌≤◌, List}
use Rattle.std.specs.List.{AllByRecursion}
use Rattle.curve.specs.declared.side.Side.{Side}
use Rattle.curve.specs.Meaning.{Meaning, area_between}
use Rattle.curve.specs.Outline.{Fraction, price, side_price}

-- no place n / d whose price is at least p lies beyond q
abbrev pub NoneBeyond : (ℕ → ℕ → Fraction) → ℕ → ℕ → Type 0
NoneBeyond at p q = (n d : ℕ) → 1 ≤ d → p * (at n d).under ≤ (at n d).over → n ≤ q * d

-- q is the least whole number not below any place whose price is at least p
pub record Farthest (at : ℕ → ℕ → Fraction) (p q : ℕ) : Type 0 where
  pub far : NoneBeyond at p q
  pub least : (r : ℕ) → NoneBeyond at p r → q ≤ r

-- between two whole places the area is their distance times the mean of the two prices
abbrev pub Mean : Meaning → ℕ → ℕ → Fraction → Fraction → Type 0
Mean m x y a b =
    area_between m x y * (2 * (a.under * b.under)) ≡ m.parts * ((y - x) * (a.over * b.under + b.over * a.under))

-- at the places of the side the price is the side's own, and between any two whole ones the area follows it
pub record Along (m : Meaning) (at : ℕ → ℕ → Fraction) (s : Side) : Type 0 where
  pub priced : (n d : ℕ) → 1 ≤ d → s.from * d < n → n ≤ s.to * d → at n d ≡ side_price s n d
  pub mean : (x y : ℕ) → s.from ≤ x → x ≤ y → y ≤ s.to → Mean m x y (side_price s x 1) (side_price s y 1)

-- the running area is that under the price: it begins at 0, follows the price along each side, and is level past the last
pub record AreaUnder (m : Meaning) (ss : List Side) : Type 0 where
  pub begins : m.area 0 ≡ 0
  pub along : AllByRecursion (Along m (price ss)) ss
  pub past : (x y : ℕ) → AllByRecursion (λ s. s.to ≤ x) ss → x ≤ y → m.area y ≡ m.area x
