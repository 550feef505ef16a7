-- The worked clearings, worked out and found to meet the relation.
use Rattle.std.proofs.Common.{◌≡◌, ℕ, true, cond, List, [], ◌∷◌, ℤ, pos, Some, None, Option, sym, refl, ap, subst, arith, lit≤}
use Rattle.std.proofs.lemmas.Int.{ints}
use Rattle.curve.proofs.DemandWords.{words}
use Rattle.curve.specs.OutlineLaws.{curve_laws, curve_area}
use Rattle.curve.specs.declared.side.Shape.TheVariants.{Lines}
use Rattle.curve.specs.declared.sign.Sign.TheVariants.{Above}
use Rattle.curve.specs.Meaning.{Laws}
use Rattle.curve.specs.Outline.{sides}
use Rattle.curve.specs.Rules.{AreaUnder}
use Rattle.curve.specs.Words.{within, exactly}
use Rattle.ranking.specs.declared.exits.Exit.{Exit}
use Rattle.clearing.specs.declared.ground.Ground.{Ground}
use Rattle.clearing.specs.declared.ground.Ground.TheVariants.{NextTaken, NextLeft}
use Rattle.clearing.specs.declared.settlement.Settlement.{Settlement}
use Rattle.clearing.specs.declared.place.Place.{Place}
use Rattle.clearing.specs.Finding.{stopped, found_outcome}
use Rattle.clearing.specs.Grounds.{Outcome}
use Rattle.clearing.specs.Margins.{weighed, sign_of, takes}
use Rattle.clearing.specs.Places.{place_at}
use Rattle.clearing.specs.Premise.{Clearable}
use Rattle.clearing.proofs.Outcomes.{outcome_holds}
use Rattle.clearing.proofs.Premises.{clearable_test, clearable_tested}
use Rattle.clearing.proofs.Signs.{told_weighed}
use Rattle.figures.specs.Clearings.{worked_curve, combe, dale, ClearsSo, ClearsNot, WorkedClearings}
use Rattle.figures.specs.Curves.{worked_corners}
use Rattle.figures.proofs.WorkedCurves.{above, level_worth}

laws : Laws worked_curve
laws = curve_laws Lines worked_corners refl

-- what is worked out is what the relation says
outcome_is : (floor s0 : ℕ) (exits : List Exit) (o : Option Settlement) → Clearable floor s0 exits → found_outcome worked_curve floor s0 exits ≡ o → Outcome worked_curve floor s0 exits o
outcome_is floor s0 exits o ok is =
    subst (Outcome worked_curve floor s0 exits) is (outcome_holds worked_curve (words worked_curve laws) floor s0 exits ok)

so : {floor s0 : ℕ} {exits : List Exit} {price : ℕ} {ground : Ground} {stop : ℕ} → clearable_test floor s0 exits ≡ true → found_outcome worked_curve floor s0 exits ≡ Some (record { price = price; ground = ground; stop = stop }) → ClearsSo floor s0 exits price ground stop
so test is =
    let ok = clearable_tested _ _ _ test in
    record { clearable = ok; outcome = outcome_is _ _ _ _ ok is }

not_so : {floor s0 : ℕ} {exits : List Exit} → clearable_test floor s0 exits ≡ true → found_outcome worked_curve floor s0 exits ≡ None → ClearsNot floor s0 exits
not_so test is =
    let ok = clearable_tested _ _ _ test in
    record { clearable = ok; outcome = outcome_is _ _ _ _ ok is }

-- ---- the two rounds in which the second exit passes the demand

under : AreaUnder worked_curve (sides Lines worked_corners)
under = curve_area Lines worked_corners refl

at : ℕ → ℕ → Place
at capacity i = place_at 1000 19000 (combe capacity ∷ dale ∷ []) i

above_zero : sign_of (weighed worked_curve (at 1400 1) (at 1400 2)) ≡ pos 1
unfolding at
above_zero = sym (told_weighed worked_curve (at 1400 1) (at 1400 2) Above (pos 3600000) refl (above worked_curve (lit≤ tt) under))

even : weighed worked_curve (place_at 1000 19000 (combe 1500 ∷ dale ∷ []) 1) (place_at 1000 19000 (combe 1500 ∷ dale ∷ []) 2) ≡ pos 0
even =
    let worth = level_worth worked_curve under in omega (arith, ints)

-- the margin, whichever sign is found
at_sign : ℕ → ℤ → Option Settlement
at_sign capacity z =
    Some (cond (takes (at capacity 1) (at capacity 2) z) (stopped NextTaken (at capacity 2)) (stopped NextLeft (at capacity 1)))

pub found_taken : found_outcome worked_curve 1000 19000 (combe 1400 ∷ dale ∷ []) ≡ Some (record { price = 3600; ground = NextTaken; stop = 2 })
unfolding within exactly at at_sign
found_taken = ap (at_sign 1400) above_zero

pub found_left : found_outcome worked_curve 1000 19000 (combe 1500 ∷ dale ∷ []) ≡ Some (record { price = 3600; ground = NextLeft; stop = 1 })
unfolding within exactly at at_sign
found_left = ap (at_sign 1500) (ap sign_of even)

pub worked_clearings : WorkedClearings
unfolding within exactly
worked_clearings =
    record {
      too_much = not_so refl refl;
      at_the_floor = so refl refl;
      nobody = so refl refl;
      at_an_exit = so refl refl;
      taken = so refl found_taken;
      left = so refl found_left;
      even = even;
    }
