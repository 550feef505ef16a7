-- What the clearing of a round rests on. Assumes nothing.
use Rattle.std.specs.Prelude.{ℕ, ◌+◌, ◌*◌, ◌^◌, ◌<◌, ◌≤◌, List, sum_by}
use Rattle.std.specs.Coded.{le_prop}
use Rattle.std.specs.List.{AllByRecursion, AllByRecursion-prop}
use Rattle.std.specs.List.Sorted.{IsNonDecreasingBy}
use Rattle.curve.specs.Meaning.{ceiling}
use Rattle.ranking.specs.declared.exits.Exit.{Exit}
use Rattle.clearing.specs.declared.place.Place.{Place}

-- the largest price, in pence per kW and year
abbrev pub top_price : ℕ
top_price = 10000

-- The exits of a round are in the order in which it clears: prices never fall and none is below the floor. Of the order
-- among equal prices nothing is asked.
pub record Clearable (floor s0 : ℕ) (exits : List Exit) : Type 0 where
  pub floor_most : floor ≤ top_price
  pub prices_most : AllByRecursion (λ e. e.price ≤ top_price) exits
  pub prices_least : AllByRecursion (λ e. floor ≤ e.price) exits
  pub prices_rise : IsNonDecreasingBy (λ e. e.price) exits
  pub capacities : AllByRecursion (λ e. 1 ≤ e.capacity) exits
  pub room : s0 + sum_by (λ e. e.capacity) exits ≤ ceiling

pub Clearable-prop : (floor s0 : ℕ) (exits : List Exit) → IsProp (Clearable floor s0 exits)
Clearable-prop floor s0 exits x y i =
    record {
      floor_most = le_prop x.floor_most y.floor_most i;
      prices_most = AllByRecursion-prop _ (λ e. le_prop) exits x.prices_most y.prices_most i;
      prices_least = AllByRecursion-prop _ (λ e. le_prop) exits x.prices_least y.prices_least i;
      prices_rise = λ j k d le lt. le_prop (x.prices_rise j k d le lt) (y.prices_rise j k d le lt) i;
      capacities = AllByRecursion-prop _ (λ e. le_prop) exits x.capacities y.capacities i;
      room = le_prop x.room y.room i;
    }

-- price and sum of a place are in their ranges, and so is what the sum costs
abbrev pub Bounded : Place → Type 0
Bounded at = (at.price ≤ top_price) × (at.sum ≤ ceiling)

abbrev pub top_cost : ℕ
top_cost = top_price * ceiling

-- one more exit behind a place keeps the sum in its range, and the number of places in that of a machine word
abbrev pub HasRoom : Place → Exit → Type 0
HasRoom at e = (at.number + 1 < 2 ^ 64) × (at.sum + e.capacity ≤ ceiling)
