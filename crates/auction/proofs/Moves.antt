-- What a call does to an auction: it is refused and nothing changes, or it is one of eight moves, each with what its questions
-- established. Everything about lists of calls goes by cases of these.
use Rattle.std.proofs.Common.{◌≡◌, ℕ, ◌+◌, ◌<◌, ◌≤◌, Bool, true, false, List, [], ◌∷◌, length, Some, None, Option, refl, arith}
use Rattle.std.proofs.lemmas.Bool.{cond_both, and_from, and_parts, ltb-true, leb-true}
use Rattle.auction.specs.declared.calls.Answer.{Answer}
use Rattle.auction.specs.declared.calls.Answer.TheVariants.{Refused, Enrolled, Begun, Entered, SteppedBack, ClosedShut, ClosedSettled, Opened}
use Rattle.auction.specs.declared.calls.Call.{Call}
use Rattle.auction.specs.declared.calls.Call.TheVariants.{Enrol, Begin, Exit, Years, StepBack, Close, Next}
use Rattle.auction.specs.declared.clocks.Stage.{Stage}
use Rattle.auction.specs.declared.clocks.Stage.TheVariants.{Enrolling, Open, Shut, Settled}
use Rattle.auction.specs.declared.clocks.Stamp.{Stamp}
use Rattle.auction.specs.State.{State, floor_of, in_of, same_stage, current, terms_of, stamp_of}
use Rattle.auction.specs.Steps.{step, carried_out, own_clock, with_book, moved_to, figures_of}
use Rattle.auction.specs.History.{Saying, refused, enrols, opens, exits, serves, steps_back, closes, says}
use Rattle.book.specs.Asked.{enrol_questions, exit_questions, years_questions, back_questions, years_known}
use Rattle.book.specs.Books.{unit_at, new_unit, with_unit, with_exit, with_years, stepped_back, closed_book, total_enrolled}
use Rattle.book.specs.declared.terms.Application.{Application}
use Rattle.curve.specs.Meaning.{ceiling}
use Rattle.curve.specs.Questions.{Question, first_no, all_yes}
use Rattle.curve.specs.Words.{within}

-- what the questions of an accepted call established
pub record Enrols (s : State) (a : Application) : Type 0 where
  pub stage_is : s.stage ≡ Enrolling
  pub few : length s.book.units < 512
  pub least : 1000 ≤ a.capacity
  pub most : a.capacity ≤ 5000000
  pub room : total_enrolled s.book.units + a.capacity ≤ ceiling
  pub known : years_known a ≡ true

pub record Exits (s : State) (i price : ℕ) : Type 0 where
  pub stage_is : s.stage ≡ Open
  pub here : i < length s.book.units
  pub inside : (unit_at s.book i).standing.inside ≡ true
  pub above : floor_of s < price
  pub most : price ≤ s.top
  pub few : length s.book.entries < 1024

pub record Serves (s : State) (i years : ℕ) : Type 0 where
  pub stage_is : s.stage ≡ Open
  pub here : i < length s.book.units
  pub inside : (unit_at s.book i).standing.inside ≡ true
  pub least : 1 ≤ years
  pub fewer : years < (unit_at s.book i).standing.years
  pub few : length s.book.entries < 1024

pub record Backs (s : State) : Type 0 where
  pub stage_is : s.stage ≡ Open
  pub some : 0 < length s.book.entries

pub record Closes (s : State) (settled : Bool) : Type 0 where
  pub stage_is : s.stage ≡ Open
  pub decided : within s.curve (floor_of s) (in_of s) ≡ settled

pub data Move (s : State) : Type 0 where
  refusing : Move s
  enrolling : (a : Application) → Enrols s a → Move s
  beginning : s.stage ≡ Enrolling → Move s
  exiting : (i price : ℕ) → Exits s i price → Move s
  serving : (i years : ℕ) → Serves s i years → Move s
  backing : Backs s → Move s
  shutting : Closes s false → Move s
  settling : Closes s true → Move s
  going_on : s.stage ≡ Shut → Move s

abbrev pub after : (s : State) → Move s → State
after s refusing = s
after s (enrolling a h) = with_book s (with_unit s.book (new_unit a))
after s (beginning h) = moved_to s Open 1 s.top s.book
after s (exiting i price h) = with_book s (with_exit s.book i price)
after s (serving i years h) = with_book s (with_years s.book i years)
after s (backing h) = with_book s (stepped_back s.book)
after s (shutting h) = moved_to s Shut s.round s.top (closed_book s.book)
after s (settling h) = moved_to s Settled s.round s.top s.book
after s (going_on h) = moved_to s Open (s.round + 1) (floor_of s) s.book

abbrev pub heard : (s : State) → Move s → Saying
heard s refusing = refused
heard s (enrolling a h) = enrols a
heard s (beginning h) = opens
heard s (exiting i price h) = exits i price
heard s (serving i years h) = serves i years
heard s (backing h) = steps_back
heard s (shutting h) = closes (figures_of s) false
heard s (settling h) = closes (figures_of s) true
heard s (going_on h) = opens

-- a call is a move: so it ends, and so it is answered
pub record Moved (s : State) (c : Call) (r : State × Answer) : Type 0 where
  pub move : Move s
  pub state_is : r.0 ≡ after s move
  pub saying_is : says c r.1 ≡ heard s move

same_stage_is : (a b : Stage) → same_stage a b ≡ true → a ≡ b
same_stage_is Enrolling Enrolling h = refl
same_stage_is Open Open h = refl
same_stage_is Shut Shut h = refl
same_stage_is Settled Settled h = refl
same_stage_is Enrolling Open h = cc
same_stage_is Enrolling Shut h = cc
same_stage_is Enrolling Settled h = cc
same_stage_is Open Enrolling h = cc
same_stage_is Open Shut h = cc
same_stage_is Open Settled h = cc
same_stage_is Shut Enrolling h = cc
same_stage_is Shut Open h = cc
same_stage_is Shut Settled h = cc
same_stage_is Settled Enrolling h = cc
same_stage_is Settled Open h = cc
same_stage_is Settled Shut h = cc

stage_of : (s : State) (stage : Stage) (c : Stamp) → current s stage c ≡ true → s.stage ≡ stage
stage_of s stage c h = same_stage_is s.stage stage (and_parts _ _ h).0

by_first_no : (qs : List Question) (Q : Option ℕ → Type 0) → (all_yes qs ≡ true → Q None) → ((n : ℕ) → Q (Some n)) → Q (first_no qs)
by_first_no [] Q accept refuse = accept refl
by_first_no (q ∷ qs) Q accept refuse =
    cond_both q.yes (first_no qs) (Some q.number) Q
    (λ e. by_first_no qs Q (λ h. accept (and_from _ _ e h)) refuse) (λ e. refuse q.number)

pub first_yes : (qs : List Question) → first_no qs ≡ None → all_yes qs ≡ true
first_yes qs = by_first_no qs (λ o. o ≡ None → all_yes qs ≡ true) (λ h e. h) (λ n e. let z : ◌≡◌ {A = ℕ} 0 1 = cc in absurd (omega arith))

-- a call is refused, or every question is answered "yes" and it is carried out
by_carried : (qs : List Question) (s t : State) (a : Answer) (P : State × Answer → Type 0) → (all_yes qs ≡ true → P (t, a)) → ((n : ℕ) → P (s, Refused n)) → P (carried_out qs s t a)
by_carried qs s t a P accept refuse = by_first_no qs (λ o. P (elim o [ None ↦ (t, a) | Some n ↦ (s, Refused n) ])) accept refuse

refused_move : (s : State) (c : Call) (n : ℕ) → Moved s c (s, Refused n)
refused_move s c n = record { move = refusing; state_is = refl; saying_is = refl }

enrol_facts : (s : State) (c : Stamp) (a : Application) → all_yes (own_clock s Enrolling c ∷ enrol_questions s.book a) ≡ true → Enrols s a
enrol_facts s c a h =
    let q9 = and_parts _ _ h in
    let q10 = and_parts _ _ q9.1 in
    let q11 = and_parts _ _ q10.1 in
    let q12 = and_parts _ _ q11.1 in
    let q13 = and_parts _ _ q12.1 in
    let cap11 = and_parts _ _ q11.0 in
    record {
      stage_is = stage_of s Enrolling c q9.0;
      few = ltb-true _ _ q10.0;
      least = leb-true _ _ cap11.0;
      most = leb-true _ _ cap11.1;
      room = leb-true _ _ q12.0;
      known = q13.0;
    }

exit_facts : (s : State) (c : Stamp) (i price : ℕ) → all_yes (own_clock s Open c ∷ exit_questions (terms_of s) s.book i price) ≡ true → Exits s i price
exit_facts s c i price h =
    let q9 = and_parts _ _ h in
    let q15 = and_parts _ _ q9.1 in
    let q16 = and_parts _ _ q15.1 in
    let q17 = and_parts _ _ q16.1 in
    let q18 = and_parts _ _ q17.1 in
    let q20 = and_parts _ _ q18.1 in
    let between = and_parts _ _ q17.0 in
    record {
      stage_is = stage_of s Open c q9.0;
      here = ltb-true _ _ q15.0;
      inside = q16.0;
      above = ltb-true _ _ between.0;
      most = leb-true _ _ between.1;
      few = ltb-true _ _ q20.0;
    }

years_facts : (s : State) (c : Stamp) (i years : ℕ) → all_yes (own_clock s Open c ∷ years_questions s.book i years) ≡ true → Serves s i years
years_facts s c i years h =
    let q9 = and_parts _ _ h in
    let q15 = and_parts _ _ q9.1 in
    let q16 = and_parts _ _ q15.1 in
    let q19 = and_parts _ _ q16.1 in
    let q20 = and_parts _ _ q19.1 in
    let between = and_parts _ _ q19.0 in
    record {
      stage_is = stage_of s Open c q9.0;
      here = ltb-true _ _ q15.0;
      inside = q16.0;
      least = leb-true _ _ between.0;
      fewer = ltb-true _ _ between.1;
      few = ltb-true _ _ q20.0;
    }

pub moved : (s : State) (c : Call) → Moved s c (step s c)
moved s (Enrol c a) =
    by_carried (own_clock s Enrolling c ∷ enrol_questions s.book a) s (with_book s (with_unit s.book (new_unit a))) (Enrolled (length s.book.units)) (Moved s (Enrol c a))
    (λ h. record { move = enrolling a (enrol_facts s c a h); state_is = refl; saying_is = refl })
    (refused_move s (Enrol c a))
moved s (Begin c) =
    by_carried (own_clock s Enrolling c ∷ []) s (moved_to s Open 1 s.top s.book) (Begun (record { number = s.number; round = 1 })) (Moved s (Begin c))
    (λ h. record { move = beginning (stage_of s Enrolling c (and_parts _ _ h).0); state_is = refl; saying_is = refl })
    (refused_move s (Begin c))
moved s (Exit c i price) =
    by_carried (own_clock s Open c ∷ exit_questions (terms_of s) s.book i price) s (with_book s (with_exit s.book i price)) Entered (Moved s (Exit c i price))
    (λ h. record { move = exiting i price (exit_facts s c i price h); state_is = refl; saying_is = refl })
    (refused_move s (Exit c i price))
moved s (Years c i years) =
    by_carried (own_clock s Open c ∷ years_questions s.book i years) s (with_book s (with_years s.book i years)) Entered (Moved s (Years c i years))
    (λ h. record { move = serving i years (years_facts s c i years h); state_is = refl; saying_is = refl })
    (refused_move s (Years c i years))
moved s (StepBack c) =
    by_carried (own_clock s Open c ∷ back_questions s.book) s (with_book s (stepped_back s.book)) SteppedBack (Moved s (StepBack c))
    (λ h. let q9 = and_parts _ _ h in
    record {
      move = backing (record { stage_is = stage_of s Open c q9.0; some = ltb-true _ _ (and_parts _ _ q9.1).0 });
      state_is = refl;
      saying_is = refl;
    })
    (refused_move s (StepBack c))
moved s (Close c) =
    cond_both (within s.curve (floor_of s) (in_of s)) _ _ (Moved s (Close c))
    (λ e. by_carried (own_clock s Open c ∷ []) s (moved_to s Settled s.round s.top s.book) (ClosedSettled (figures_of s) (stamp_of s)) (Moved s (Close c))
    (λ h. record { move = settling (record { stage_is = stage_of s Open c (and_parts _ _ h).0; decided = e }); state_is = refl; saying_is = refl })
    (refused_move s (Close c)))
    (λ e. by_carried (own_clock s Open c ∷ []) s (moved_to s Shut s.round s.top (closed_book s.book)) (ClosedShut (figures_of s) (stamp_of s)) (Moved s (Close c))
    (λ h. record { move = shutting (record { stage_is = stage_of s Open c (and_parts _ _ h).0; decided = e }); state_is = refl; saying_is = refl })
    (refused_move s (Close c)))
moved s (Next c) =
    by_carried (own_clock s Shut c ∷ []) s (moved_to s Open (s.round + 1) (floor_of s) s.book) (Opened (record { number = s.number; round = s.round + 1 })) (Moved s (Next c))
    (λ h. record { move = going_on (stage_of s Shut c (and_parts _ _ h).0); state_is = refl; saying_is = refl })
    (refused_move s (Next c))
