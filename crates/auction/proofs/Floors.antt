-- A round that does not clear has a floor above 0, so another can follow it. Assumes nothing.
use Rattle.std.proofs.Common.{◌≡◌, ℕ, zero, suc, ◌<◌, Bool, true, false, cond, ltb, [], ◌∷◌, Some, None, sym, refl, ◌∙◌, arith}
use Rattle.std.proofs.lemmas.Bool.{lt-ltb, ltb-true, and_parts}
use Rattle.std.proofs.lemmas.Bool.Decides.{nat_tests}
use Rattle.auction.specs.declared.clocks.Stage.{Stage}
use Rattle.auction.specs.declared.clocks.Stage.TheVariants.{Enrolling, Open, Shut, Settled}
use Rattle.auction.specs.declared.clocks.Stamp.{Stamp}
use Rattle.auction.specs.Sound.{shut_above}
use Rattle.auction.specs.State.{State, same_stage, floor_of}
use Rattle.auction.specs.Steps.{own_clock}
use Rattle.book.specs.Books.{Books, capacity_inside}
use Rattle.book.specs.Lawful.{lawful}
use Rattle.book.proofs.ModelLaws.{capacity_at_most_total}
use Rattle.book.proofs.Rules.{lawful_keeps}
use Rattle.curve.specs.Meaning.{Meaning, Laws}
use Rattle.curve.specs.Questions.{first_no}
use Rattle.curve.specs.Words.{within}
use Rattle.curve.proofs.DemandWords.{words}

pub shut_has_floor : (m : Meaning) → Laws m → (floor : ℕ) (b : Books) (clears : Bool) → lawful b ≡ true → clears ≡ within m floor (capacity_inside b.units) → clears ≡ false → ltb 0 floor ≡ true
shut_has_floor m laws zero b clears h asked not =
    let keeps = lawful_keeps b h in
    let most = capacity_at_most_total b.units in
    let is : within m 0 (capacity_inside b.units) ≡ true = (words m laws).free (capacity_inside b.units) (omega (arith, keeps.total)) in
    absurd (let z : ◌≡◌ {A = Bool} true false = sym is ∙ sym asked ∙ not in grind (arith, nat_tests))
shut_has_floor m laws (suc floor) b clears h asked not = lt-ltb 0 (suc floor) (omega arith)

is_shut : (stage : Stage) → same_stage stage Shut ≡ true → (floor : ℕ) → shut_above stage floor ≡ true → 0 < floor
is_shut Enrolling h floor k = absurd (grind (arith, nat_tests))
is_shut Open h floor k = absurd (grind (arith, nat_tests))
is_shut Shut h floor k = ltb-true 0 floor k
is_shut Settled h floor k = absurd (grind (arith, nat_tests))

asked_yes : (b : Bool) (n : ℕ) → None ≡ cond b None (Some n) → b ≡ true
asked_yes true n h = refl
asked_yes false n h = absurd (let z : ◌≡◌ {A = ℕ} 0 1 = cc in omega arith)

-- the floor of a round that another can follow
pub own_shut_floor : (s : State) (stamp : Stamp) → None ≡ first_no (own_clock s Shut stamp ∷ []) → shut_above s.stage (floor_of s) ≡ true → 0 < floor_of s
own_shut_floor s stamp h k = is_shut s.stage (and_parts _ _ (asked_yes _ 9 h)).0 (floor_of s) k
