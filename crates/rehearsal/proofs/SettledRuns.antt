-- The lines of a run, with what a settled auction prints kept apart: it goes by the curve and the tie order that were opened.
use Rattle.std.proofs.Common.{◌≡◌, ℕ, Bool, List, [], ◌∷◌, ◌++◌, map, Some, None, Option, sym, refl, ap, ◌∙◌, subst}
use Rattle.auction.specs.declared.calls.Answer.{Answer}
use Rattle.auction.specs.declared.calls.Answer.TheVariants.{Refused, Enrolled, Begun, Entered, SteppedBack, ClosedShut, ClosedSettled, Opened}
use Rattle.auction.specs.declared.calls.Call.{Call}
use Rattle.auction.specs.Reading.{settlement_of}
use Rattle.auction.specs.Rolls.{roll_of}
use Rattle.auction.specs.State.{State, floor_of, priced}
use Rattle.auction.specs.Steps.{step}
use Rattle.auction.proofs.Moves.{Move, refusing, enrolling, beginning, exiting, serving, backing, shutting, settling, going_on, after, moved}
use Rattle.clearing.specs.declared.ground.Ground.TheVariants.{AllFit}
use Rattle.clearing.specs.declared.settlement.Settlement.{Settlement}
use Rattle.curve.specs.Meaning.{Meaning}
use Rattle.listing.specs.declared.line.Line.{Line}
use Rattle.listing.specs.declared.line.Line.TheVariants.{Refused as RefusedLine, Cleared, Fault, Unsettled}
use Rattle.ranking.specs.declared.exits.Exit.{Exit as Leaving}
use Rattle.rehearsal.specs.Events.{Event, made, faulted, unsettled}
use Rattle.rehearsal.specs.Listing.{round_line, award_line, answer_lines, lines_from}
use Rattle.rehearsal.proofs.LinkedEvents.{Linked}
use Rattle.rehearsal.proofs.LinkedLines.{settled_lines}

-- the lines of events, for whatever a settled auction prints

abbrev answer_lines_by : (State → List Line) → ℕ → State → State → Answer → List Line
answer_lines_by prints at s t (Refused n) = RefusedLine n at ∷ []
answer_lines_by prints at s t (Enrolled i) = []
answer_lines_by prints at s t (Begun k) = []
answer_lines_by prints at s t Entered = []
answer_lines_by prints at s t SteppedBack = []
answer_lines_by prints at s t (ClosedShut f k) = round_line s f ∷ []
answer_lines_by prints at s t (ClosedSettled f k) = round_line s f ∷ prints t
answer_lines_by prints at s t (Opened k) = []

abbrev pub lines_by : (State → List Line) → List Event → List Line
lines_by prints [] = []
lines_by prints (made s at c ∷ es) = answer_lines_by prints at s (step s c).0 (step s c).1 ++ lines_by prints es
lines_by prints (faulted layer n at ∷ es) = Fault layer n at ∷ lines_by prints es
lines_by prints (unsettled ∷ es) = Unsettled ∷ lines_by prints es

same_answer : (at : ℕ) (s t : State) (a : Answer) → answer_lines at s t a ≡ answer_lines_by settled_lines at s t a
same_answer at s t (Refused n) = refl
same_answer at s t (Enrolled i) = refl
same_answer at s t (Begun k) = refl
same_answer at s t Entered = refl
same_answer at s t SteppedBack = refl
same_answer at s t (ClosedShut f k) = refl
same_answer at s t (ClosedSettled f k) = refl
same_answer at s t (Opened k) = refl

pub same_lines : (es : List Event) → lines_from es ≡ lines_by settled_lines es
same_lines [] = refl
same_lines (made s at c ∷ es) =
    ap (λ (lines : List Line). lines ++ lines_from es) (same_answer at s (step s c).0 (step s c).1)
    ∙ ap (λ (lines : List Line). answer_lines_by settled_lines at s (step s c).0 (step s c).1 ++ lines) (same_lines es)
same_lines (faulted layer n at ∷ es) = ap (λ (lines : List Line). Fault layer n at ∷ lines) (same_lines es)
same_lines (unsettled ∷ es) = ap (λ (lines : List Line). Unsettled ∷ lines) (same_lines es)

-- an auction with this curve and this tie order
abbrev pub of_curve : Meaning → (Leaving → Leaving → Bool) → State → State
of_curve m ahead s =
    record {
      number = s.number;
      stage = s.stage;
      round = s.round;
      top = s.top;
      spread = s.spread;
      threshold = s.threshold;
      book = s.book;
      curve = m;
      ahead = ahead;
    }

-- a call leaves both as they were

after_keeps : (s : State) (move : Move s) → ((after s move).curve ≡ s.curve) × ((after s move).ahead ≡ s.ahead)
after_keeps s refusing = (refl, refl)
after_keeps s (enrolling a h) = (refl, refl)
after_keeps s (beginning h) = (refl, refl)
after_keeps s (exiting i price h) = (refl, refl)
after_keeps s (serving i years h) = (refl, refl)
after_keeps s (backing h) = (refl, refl)
after_keeps s (shutting h) = (refl, refl)
after_keeps s (settling h) = (refl, refl)
after_keeps s (going_on h) = (refl, refl)

module _ (prints : State → List Line) (m : Meaning) (ahead : Leaving → Leaving → Bool) where
  abbrev Keeps : State → Type 0
  Keeps s = (s.curve ≡ m) × (s.ahead ≡ ahead)

  step_keeps : (s : State) (c : Call) → Keeps s → Keeps (step s c).0
  step_keeps s c h =
      let move = moved s c in
      let kept = after_keeps s move.move in
      subst Keeps (sym move.state_is) (kept.0 ∙ h.0, kept.1 ∙ h.1)

  prints_same : (s : State) → Keeps s → prints s ≡ prints (of_curve m ahead s)
  prints_same s h =
      ap (λ (n : Meaning). prints (of_curve n s.ahead s)) h.0 ∙ ap (λ (a : Leaving → Leaving → Bool). prints (of_curve m a s)) h.1

  answer_same : (at : ℕ) (s t : State) (a : Answer) → Keeps t → answer_lines_by prints at s t a ≡ answer_lines_by (λ z. prints (of_curve m ahead z)) at s t a
  answer_same at s t (Refused n) h = refl
  answer_same at s t (Enrolled i) h = refl
  answer_same at s t (Begun k) h = refl
  answer_same at s t Entered h = refl
  answer_same at s t SteppedBack h = refl
  answer_same at s t (ClosedShut f k) h = refl
  answer_same at s t (ClosedSettled f k) h = ap (λ (lines : List Line). round_line s f ∷ lines) (prints_same t h)
  answer_same at s t (Opened k) h = refl

  pub lines_kept : (es : List Event) (s t : State) → Linked s es t → Keeps s → lines_by prints es ≡ lines_by (λ z. prints (of_curve m ahead z)) es
  lines_kept [] s t h k = refl
  lines_kept (made u at c ∷ es) s t h k =
      let next : Keeps (step s c).0 = step_keeps s c k in
      ap (λ (lines : List Line). lines ++ lines_by prints es) (answer_same at u (step u c).0 (step u c).1 (subst (λ (z : State). Keeps (step z c).0) h.0 next))
      ∙ ap (λ (lines : List Line). answer_lines_by (λ z. prints (of_curve m ahead z)) at u (step u c).0 (step u c).1 ++ lines) (lines_kept es (step s c).0 t h.1 next)
  lines_kept (faulted layer n at ∷ es) s t h k = ap (λ (lines : List Line). Fault layer n at ∷ lines) (lines_kept es s t h k)
  lines_kept (unsettled ∷ es) s t h k = ap (λ (lines : List Line). Unsettled ∷ lines) (lines_kept es s t h k)

-- what a settlement prints
abbrev pub settlement_lines : State → Settlement → List Line
settlement_lines s settled = Cleared settled.price settled.ground ∷ map award_line (roll_of s settled)

pub settled_by : (s : State) (settled : Settlement) → priced s ≡ Some settled → settled_lines s ≡ settlement_lines s settled
settled_by s settled e =
    let is : settlement_of s ≡ settled = ap (λ (o : Option Settlement). elim o [ None ↦ record { price = floor_of s; ground = AllFit; stop = 0 } | Some x ↦ x ]) e in
    ap (settlement_lines s) is
