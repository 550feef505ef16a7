-- Where a settlement stops, and at which prices the awarded exits and the others left.
use Rattle.std.proofs.Common.{◌≡◌, ℕ, zero, suc, ◌+◌, ◌≤◌, List, [], ◌∷◌, length, take, drop, sym, ap, ◌∙◌, subst, le_of_suc-le-suc, arith}
use Rattle.std.specs.List.{AllByRecursion}
use Rattle.curve.specs.Meaning.{Meaning}
use Rattle.curve.specs.Words.{Words}
use Rattle.ranking.specs.declared.exits.Exit.{Exit}
use Rattle.clearing.specs.declared.ground.Ground.{Ground}
use Rattle.clearing.specs.declared.ground.Ground.TheVariants.{FloorExact, ExitExact, AllFit, NextTaken, NextLeft}
use Rattle.clearing.specs.declared.settlement.Settlement.{Settlement}
use Rattle.clearing.specs.Grounds.{Stops, Settles}
use Rattle.clearing.specs.Places.{price_at, LastFit}
use Rattle.clearing.specs.Premise.{Clearable}
use Rattle.clearing.specs.Sound.{stop_of, StopsNear, AwardsBelow}
use Rattle.clearing.proofs.LastFits.{one_last_fit, exact_is_last}
use Rattle.clearing.proofs.RankedPlaces.{from_floor}
use Rattle.clearing.proofs.Walk.{next_clearable}

module _ (m : Meaning) (words : Words m) (floor s0 : ℕ) (exits : List Exit) (ok : Clearable floor s0 exits) where
  -- every ground but the fourth stops at the last fit, and the fourth one place behind it
  pub stop_is : (l : ℕ) → LastFit m floor s0 exits l → (g : Ground) (k : ℕ) → Stops m floor s0 exits l g k → k ≡ stop_of g l
  stop_is l last FloorExact k (met, none) =
      none ∙ one_last_fit m floor s0 exits 0 l (exact_is_last m words floor s0 exits ok 0 met (omega arith)) last
  stop_is l last ExitExact k (some, in', met) =
      one_last_fit m floor s0 exits k l (exact_is_last m words floor s0 exits ok k met in') last
  stop_is l last AllFit k (none, end, is) = is ∙ sym end
  stop_is l last NextTaken k (none, lt, taken, is) = is
  stop_is l last NextLeft k (none, lt, left, is) = is

  stop_inside : (l : ℕ) → LastFit m floor s0 exits l → (g : Ground) (k : ℕ) → Stops m floor s0 exits l g k → k ≤ length exits
  stop_inside l last FloorExact k (met, none) = omega arith
  stop_inside l last ExitExact k (some, in', met) = in'
  stop_inside l last AllFit k (none, end, is) = omega arith
  stop_inside l last NextTaken k (none, lt, taken, is) = omega arith
  stop_inside l last NextLeft k (none, lt, left, is) = omega arith

  pub stops_near : (s : Settlement) → Settles m floor s0 exits s → StopsNear m floor s0 exits s
  stops_near s st = (
    stop_inside st.last st.last_fit s.ground s.stop st.stops,
    λ l last.
        stop_is st.last st.last_fit s.ground s.stop st.stops
        ∙ ap (stop_of s.ground) (one_last_fit m floor s0 exits st.last l st.last_fit last),
  )

-- the exits up to any place left at or below its price, those behind it at or above it
split_by_price : (floor s0 : ℕ) (exits : List Exit) → Clearable floor s0 exits → (k : ℕ) → k ≤ length exits → AllByRecursion (λ e. e.price ≤ price_at floor exits k) (take k exits) × AllByRecursion (λ e. price_at floor exits k ≤ e.price) (drop k exits)
split_by_price floor s0 exits ok zero le = (tt, ok.prices_least)
split_by_price floor s0 [] ok (suc k) le = absurd (omega arith)
split_by_price floor s0 (e ∷ es) ok (suc k) le =
    let ok' = next_clearable floor s0 e es ok in
    let rest = split_by_price e.price (s0 + e.capacity) es ok' k (le_of_suc-le-suc le) in
    ((from_floor e.price (s0 + e.capacity) es ok' k (le_of_suc-le-suc le), rest.0), rest.1)

-- of the ground nothing is used but that it stops at a place of the round
pub awards_below : (floor s0 : ℕ) (exits : List Exit) → Clearable floor s0 exits → (s : Settlement) → s.stop ≤ length exits → s.price ≡ price_at floor exits s.stop → AwardsBelow exits s
awards_below floor s0 exits ok s le is =
    subst (λ (p : ℕ). AllByRecursion (λ e. e.price ≤ p) (take s.stop exits) × AllByRecursion (λ e. p ≤ e.price) (drop s.stop exits)) (sym is)
    (split_by_price floor s0 exits ok s.stop le)
