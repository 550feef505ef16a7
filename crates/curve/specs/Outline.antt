-- The curves that are built from corners: their sides, the price at each place, the demand and the running area.
-- Assumes nothing.
use Rattle.std.specs.Prelude.{ℕ, zero, suc, ◌+◌, ◌-◌, ◌*◌, ◌<◌, ◌≤◌, cond, List, [], ◌∷◌, nat_le}
use Rattle.std.specs.Int.{div_ceil}
use Rattle.curve.specs.declared.corner.Corner.{Corner}
use Rattle.curve.specs.declared.side.Shape.{Shape}
use Rattle.curve.specs.declared.side.Shape.TheVariants.{Steps, Lines}
use Rattle.curve.specs.declared.side.Side.{Side}
use Rattle.curve.specs.Meaning.{Meaning, ceiling}

-- the side between two neighbouring corners: on a step the price is the second corner's all along, on a line it runs
-- straight from the first corner's to the second's
abbrev pub side : Shape → Corner → Corner → Side
side Steps c e = record { from = c.quantity; to = e.quantity; start = e.price; end = e.price }
side Lines c e = record { from = c.quantity; to = e.quantity; start = c.price; end = e.price }

abbrev pub sides_from : Shape → Corner → List Corner → List Side
sides_from k c [] = []
sides_from k c (e ∷ es) = side k c e ∷ sides_from k e es

-- before the first corner the price is the first corner's
abbrev pub origin : List Corner → Corner
origin [] = record { quantity = 0; price = 0 }
origin (c ∷ cs) = record { quantity = 0; price = c.price }

abbrev pub sides : Shape → List Corner → List Side
sides k cs = sides_from k (origin cs) cs

abbrev pub width : Side → ℕ
width s = s.to - s.from

pub record Fraction : Type 0 where
  pub over : ℕ
  pub under : ℕ

-- the price on a side at the place n / d: straight from `start` to `end`
abbrev pub side_price : Side → ℕ → ℕ → Fraction
side_price s n d = record { over = s.start * (s.to * d - n) + s.end * (n - s.from * d); under = width s * d }

-- the price at the place n / d: that on the first side which reaches so far, and 0 past the last
abbrev pub price : List Side → ℕ → ℕ → Fraction
price [] n d = record { over = 0; under = 1 }
price (s ∷ ss) n d = cond (nat_le n (s.to * d)) (side_price s n d) (price ss n d)

-- the place on a side from which on the price is below p, rounded up
abbrev pub crossing : Side → ℕ → ℕ
crossing s p = cond (nat_le p s.start) (s.from + div_ceil ((s.start - p) * width s) (s.start - s.end)) s.from

-- the same over sides that follow the place q
abbrev pub reach : ℕ → List Side → ℕ → ℕ
reach q [] p = q
reach q (s ∷ ss) p = cond (nat_le p s.end) (reach s.to ss p) (crossing s p)

abbrev pub demand_of : List Side → ℕ → ℕ
demand_of ss p = cond (nat_le 1 p) (reach 0 ss p) ceiling

-- the width of a side times the price at a whole place of it
abbrev pub height : Side → ℕ → ℕ
height s x = s.start * (s.to - x) + s.end * (x - s.from)

abbrev pub widths : List Side → ℕ
widths [] = 1
widths (s ∷ ss) = width s * widths ss

-- the area over the one kW up to the place k, a trapezium, in parts of which twice the product of all widths make a pence-kW
abbrev pub column : List Side → ℕ → ℕ
column [] k = 0
column (s ∷ ss) k = cond (nat_le k s.to) ((height s (k - 1) + height s k) * widths ss) (width s * column ss k)

-- f 1 + .. + f n
unfoldable pub sum_to : (ℕ → ℕ) → ℕ → ℕ
sum_to f zero = 0
sum_to f (suc n) = sum_to f n + f (suc n)

abbrev pub outline : List Side → Meaning
outline ss = record { parts = 2 * widths ss; demand = demand_of ss; area = sum_to (column ss) }

-- a side of a curve that was accepted
pub record Sound (s : Side) : Type 0 where
  pub wide : s.from < s.to
  pub most : s.to ≤ ceiling
  pub down : s.end ≤ s.start
  pub cheap : s.start ≤ 10000
