-- What holds of every settlement. Assumes nothing.
use Rattle.std.specs.Prelude.{◌≡◌, ℕ, ◌+◌, ◌*◌, ◌≤◌, List, length, take, drop, ℤ, pos, ◌-ℤ◌, ◌≤ℤ◌, Some, None, Option}
use Rattle.std.specs.List.{AllByRecursion}
use Rattle.curve.specs.Meaning.{Meaning}
use Rattle.ranking.specs.declared.exits.Exit.{Exit}
use Rattle.clearing.specs.declared.ground.Ground.{Ground}
use Rattle.clearing.specs.declared.ground.Ground.TheVariants.{FloorExact, ExitExact, AllFit, NextTaken, NextLeft}
use Rattle.clearing.specs.declared.place.Place.{Place}
use Rattle.clearing.specs.declared.settlement.Settlement.{Settlement}
use Rattle.clearing.specs.Grounds.{Outcome}
use Rattle.clearing.specs.Places.{place_at, cost, LastFit}

-- no other outcome than this
abbrev pub OnlyOutcome : Meaning → ℕ → ℕ → List Exit → Option Settlement → Type 0
OnlyOutcome m floor s0 exits r = (o : Option Settlement) → Outcome m floor s0 exits o → o ≡ r

-- what holds of the settlement, where there is one
abbrev pub WhereSettled : (Settlement → Type 0) → Option Settlement → Type 0
WhereSettled P None = Unit {0}
WhereSettled P (Some s) = P s

-- where a ground stops, from the last fit
abbrev pub stop_of : Ground → ℕ → ℕ
stop_of FloorExact l = l
stop_of ExitExact l = l
stop_of AllFit l = l
stop_of NextTaken l = l + 1
stop_of NextLeft l = l

-- the round stops at a place of its own: at the last fit, or one place behind it
abbrev pub StopsNear : Meaning → ℕ → ℕ → List Exit → Settlement → Type 0
StopsNear m floor s0 exits s =
    (s.stop ≤ length exits) × ((l : ℕ) → LastFit m floor s0 exits l → s.stop ≡ stop_of s.ground l)

-- the awarded exits left at or below the clearing price, all others at or above it
abbrev pub AwardsBelow : List Exit → Settlement → Type 0
AwardsBelow exits s = AllByRecursion (λ e. e.price ≤ s.price) (take s.stop exits) × AllByRecursion (λ e. s.price ≤ e.price) (drop s.stop exits)

-- The buyer's gain of stopping at a place: the area under the curve up to the sum there, less what the place costs. It
-- counts in the curve's parts.
abbrev pub gain : Meaning → Place → ℤ
gain m at = pos (m.area at.sum) -ℤ pos (m.parts * cost at)

-- no stopping place from the last fit on gains the buyer more
abbrev pub Best : Meaning → ℕ → ℕ → List Exit → Settlement → Type 0
Best m floor s0 exits s =
    (l j : ℕ) → LastFit m floor s0 exits l → l ≤ j → j ≤ length exits →
    gain m (place_at floor s0 exits j) ≤ℤ gain m (place_at floor s0 exits s.stop)
