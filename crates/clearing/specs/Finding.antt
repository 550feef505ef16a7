-- The outcome of a round, worked out from exit to exit. That it is the one outcome that the relation allows is promised where
-- a round is cleared. Assumes nothing.
use Rattle.std.specs.Prelude.{ℕ, cond, List, [], ◌∷◌, drop, Some, None, Option, nat_le}
use Rattle.curve.specs.Meaning.{Meaning}
use Rattle.ranking.specs.declared.exits.Exit.{Exit}
use Rattle.clearing.specs.declared.ground.Ground.{Ground}
use Rattle.clearing.specs.declared.ground.Ground.TheVariants.{FloorExact, ExitExact, AllFit, NextTaken, NextLeft}
use Rattle.clearing.specs.declared.place.Place.{Place}
use Rattle.clearing.specs.declared.settlement.Settlement.{Settlement}
use Rattle.clearing.specs.Grounds.{clears}
use Rattle.clearing.specs.Margins.{weighed, sign_of, takes}
use Rattle.clearing.specs.Places.{first_place, place_after, fits, exact}

-- the last place, from `at` on over the exits that follow it, up to which all exits fit
abbrev pub last_place : Meaning → Place → List Exit → Place
last_place m at [] = at
last_place m at (e ∷ es) = cond (fits m (place_after at e)) (last_place m (place_after at e) es) at

-- the settlement of this price and ground, with so many exits awarded
abbrev pub settlement_at : (price : ℕ) → (ground : Ground) → (stop : ℕ) → Settlement
settlement_at p g k = record { price = p; ground = g; stop = k }

-- the settlement that stops at a place
abbrev pub stopped : Ground → Place → Settlement
stopped g at = settlement_at at.price g at.number

-- the ground where the sum at the last fit is exactly the demand
abbrev pub exact_ground : Place → Ground
exact_ground last = cond (nat_le 1 last.number) ExitExact FloorExact

-- the settlement where it is not, and `next` is the place behind one exit more
abbrev pub at_margin : Meaning → Place → Place → Settlement
at_margin m last next =
    cond (takes last next (sign_of (weighed m last next))) (stopped NextTaken next) (stopped NextLeft last)

-- the settlement, from the last fit and the exits that follow it
abbrev pub settled : Meaning → Place → List Exit → Settlement
settled m last [] = cond (exact m last) (stopped (exact_ground last) last) (stopped AllFit last)
settled m last (e ∷ es) =
    cond (exact m last) (stopped (exact_ground last) last) (at_margin m last (place_after last e))

abbrev pub settled_after : Meaning → Place → List Exit → Settlement
settled_after m last exits = settled m last (drop last.number exits)

abbrev pub found_outcome : Meaning → ℕ → ℕ → List Exit → Option Settlement
found_outcome m floor s0 exits =
    cond (clears m floor s0) (Some (settled_after m (last_place m (first_place floor s0) exits) exits)) None

-- the same, for those who need not look inside
unfoldable pub outcome_of : Meaning → ℕ → ℕ → List Exit → Option Settlement
outcome_of m floor s0 exits = found_outcome m floor s0 exits
