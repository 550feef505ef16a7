-- Every theorem on the outcome that is worked out.
use Rattle.std.proofs.Common.{◌≡◌, ℕ, List, Some, None, Option, sym, subst}
use Rattle.curve.specs.Meaning.{Meaning, Laws}
use Rattle.curve.proofs.DemandWords.{words}
use Rattle.ranking.specs.declared.exits.Exit.{Exit}
use Rattle.clearing.specs.declared.settlement.Settlement.{Settlement}
use Rattle.clearing.specs.Finding.{found_outcome}
use Rattle.clearing.specs.Grounds.{Settles, Outcome}
use Rattle.clearing.specs.Premise.{Clearable}
use Rattle.clearing.specs.Sound.{OnlyOutcome, WhereSettled, StopsNear, AwardsBelow, Best}
use Rattle.clearing.proofs.BuyersBest.{best}
use Rattle.clearing.proofs.Outcomes.{outcome_holds, only_outcome}
use Rattle.clearing.proofs.StoppingPlaces.{stops_near, awards_below}

module _ (m : Meaning) (laws : Laws m) (floor s0 : ℕ) (exits : List Exit) (ok : Clearable floor s0 exits) (r : Option Settlement) (is : r ≡ found_outcome m floor s0 exits) where
  pub holds : Outcome m floor s0 exits r
  holds = subst (Outcome m floor s0 exits) (sym is) (outcome_holds m (words m laws) floor s0 exits ok)

  pub only : OnlyOutcome m floor s0 exits r
  only = subst (OnlyOutcome m floor s0 exits) (sym is) (only_outcome m (words m laws) floor s0 exits ok)

-- what follows from the relation holds where there is a settlement
pub where_settled : (m : Meaning) (floor s0 : ℕ) (exits : List Exit) (P : Settlement → Type 0) → ((s : Settlement) → Settles m floor s0 exits s → P s) → (r : Option Settlement) → Outcome m floor s0 exits r → WhereSettled P r
where_settled m floor s0 exits P follows None h = tt
where_settled m floor s0 exits P follows (Some s) h = follows s h.1

module _ (m : Meaning) (laws : Laws m) (floor s0 : ℕ) (exits : List Exit) (ok : Clearable floor s0 exits) (r : Option Settlement) (h : Outcome m floor s0 exits r) where
  pub near : WhereSettled (StopsNear m floor s0 exits) r
  near = where_settled m floor s0 exits (StopsNear m floor s0 exits) (stops_near m (words m laws) floor s0 exits ok) r h

  pub awards : WhereSettled (AwardsBelow exits) r
  awards =
      where_settled m floor s0 exits (AwardsBelow exits)
      (λ s st. awards_below floor s0 exits ok s (stops_near m (words m laws) floor s0 exits ok s st).0 st.price_is)
      r h

  pub gains : WhereSettled (Best m floor s0 exits) r
  gains = where_settled m floor s0 exits (Best m floor s0 exits) (best m laws (words m laws) floor s0 exits ok) r h
