-- The lines of linked events, by what the accepted calls say: the refusals, and the lines of a settlement.
use Rattle.std.proofs.Common.{◌≡◌, ℕ, Bool, true, false, cond, List, [], ◌∷◌, ◌++◌, map, Some, None, Option, sym, refl, ap, ◌∙◌, subst}
use Rattle.std.specs.List.{flat_map}
use Rattle.std.proofs.lemmas.List.{append-nil, append_assoc}
use Rattle.auction.specs.declared.calls.Answer.{Answer}
use Rattle.auction.specs.declared.calls.Answer.TheVariants.{Refused, Enrolled, Begun, Entered, SteppedBack, ClosedShut, ClosedSettled, Opened}
use Rattle.auction.specs.declared.calls.Call.{Call}
use Rattle.auction.specs.declared.calls.Call.TheVariants.{Enrol, Begin, Exit, Years, StepBack, Close, Next}
use Rattle.auction.specs.declared.clocks.Stage.{Stage}
use Rattle.auction.specs.declared.clocks.Stage.TheVariants.{Enrolling, Open, Shut, Settled}
use Rattle.auction.specs.History.{Saying, refused, enrols, opens, exits, serves, steps_back, closes, says, played}
use Rattle.auction.specs.Reading.{settlement_of}
use Rattle.auction.specs.Rolls.{roll_of}
use Rattle.auction.specs.State.{State, floor_of, in_of, terms_of, stamp_of, same_stage}
use Rattle.auction.specs.Steps.{step, carried_out, own_clock, moved_to, figures_of}
use Rattle.auction.proofs.Closings.{settled_stays}
use Rattle.auction.proofs.Moves.{Move, refusing, enrolling, beginning, exiting, serving, backing, shutting, settling, going_on, after, heard, moved}
use Rattle.book.specs.Asked.{enrol_questions, exit_questions, years_questions, back_questions}
use Rattle.book.specs.Books.{closed_book}
use Rattle.curve.specs.Questions.{Question, first_no}
use Rattle.curve.specs.Words.{within}
use Rattle.listing.specs.declared.fault.Layer.{Layer}
use Rattle.listing.specs.declared.line.Line.{Line}
use Rattle.listing.specs.declared.line.Line.TheVariants.{Round, Refused as RefusedLine, Fault, Unsettled}
use Rattle.ranking.specs.declared.roll.RollRow.{RollRow}
use Rattle.rehearsal.specs.Events.{Event, made, faulted, unsettled}
use Rattle.rehearsal.specs.Listing.{round_line, cleared_line, award_line, award_lines, answer_lines, lines_of, lines_from}
use Rattle.rehearsal.specs.Market.{calls_in, refusal_in, cleared_in, award_in, refused_number, refusals, if_settled}
use Rattle.rehearsal.proofs.LinkedEvents.{Linked, linked_end}

pub joined_append : {X A : Type 0} (f : X → List A) (xs ys : List X) → flat_map f (xs ++ ys) ≡ flat_map f xs ++ flat_map f ys
joined_append f [] ys = refl
joined_append f (x ∷ xs) ys = ap (λ zs. f x ++ zs) (joined_append f xs ys) ∙ sym (append_assoc (f x) (flat_map f xs) (flat_map f ys))

-- a part of each line that no AWARD line has
pub no_award : {X : Type 0} (part : Line → List X) → ((row : RollRow) → part (award_line row) ≡ []) → (rows : List RollRow) → flat_map part (map award_line rows) ≡ []
no_award part none [] = refl
no_award part none (row ∷ rows) = ap (λ xs. xs ++ flat_map part (map award_line rows)) (none row) ∙ no_award part none rows

all_awards : (rows : List RollRow) → flat_map award_in (map award_line rows) ≡ map award_line rows
all_awards [] = refl
all_awards (row ∷ rows) = ap (λ (lines : List Line). award_line row ∷ lines) (all_awards rows)

-- the lines of an auction that settled
abbrev pub settled_lines : State → List Line
settled_lines t = cleared_line t ∷ award_lines t

pub settled_cleared : (t : State) → flat_map cleared_in (settled_lines t) ≡ cleared_line t ∷ []
settled_cleared t = ap (λ (lines : List Line). cleared_line t ∷ lines) (no_award cleared_in (λ row. refl) (roll_of t (settlement_of t)))

pub settled_awards : (t : State) → flat_map award_in (settled_lines t) ≡ award_lines t
settled_awards t = all_awards (roll_of t (settlement_of t))

-- The refusals

answer_refusal : (at : ℕ) (s t : State) (a : Answer) → flat_map refusal_in (answer_lines at s t a) ≡ refused_number a
answer_refusal at s t (Refused n) = refl
answer_refusal at s t (Enrolled i) = refl
answer_refusal at s t (Begun k) = refl
answer_refusal at s t Entered = refl
answer_refusal at s t SteppedBack = refl
answer_refusal at s t (ClosedShut f k) = refl
answer_refusal at s t (ClosedSettled f k) = no_award refusal_in (λ row. refl) (roll_of t (settlement_of t))
answer_refusal at s t (Opened k) = refl

pub linked_refusals : (es : List Event) (s t : State) → Linked s es t → flat_map refusal_in (lines_from es) ≡ refusals (played s (calls_in es))
linked_refusals [] s t h = refl
linked_refusals (made u at c ∷ es) s t h =
    joined_append refusal_in (lines_of (made u at c)) (lines_from es)
    ∙ ap (λ (ns : List ℕ). ns ++ flat_map refusal_in (lines_from es)) (answer_refusal at u (step u c).0 (step u c).1)
    ∙ ap (λ (z : State). refused_number (step z c).1 ++ flat_map refusal_in (lines_from es)) (sym h.0)
    ∙ ap (λ (ns : List ℕ). refused_number (step s c).1 ++ ns) (linked_refusals es (step s c).0 t h.1)
linked_refusals (faulted layer n at ∷ es) s t h = linked_refusals es s t h
linked_refusals (unsettled ∷ es) s t h = linked_refusals es s t h

-- What a call says, in lines: s is the auction before it, t the auction after it

abbrev pub said_lines : State → State → Saying → List Line
said_lines s t refused = []
said_lines s t (enrols a) = []
said_lines s t opens = []
said_lines s t (exits i price) = []
said_lines s t (serves i years) = []
said_lines s t steps_back = []
said_lines s t (closes f settled) = round_line s f ∷ cond settled (settled_lines t) []

-- a call is carried out or refused
by_carried : (qs : List Question) (s t : State) (a : Answer) (P : State × Answer → Type 0) → P (t, a) → ((n : ℕ) → P (s, Refused n)) → P (carried_out qs s t a)
by_carried qs s t a P accepted refusal =
    elim (first_no qs) as (λ (o : Option ℕ). P (elim o [ None ↦ (t, a) | Some n ↦ (s, Refused n) ])) [ None ↦ accepted | Some n ↦ refusal n ]

-- but for the REFUSED lines, the lines of an answer are those of what the call says
module _ {X : Type 0} (part : Line → List X) (no_refused : (n at : ℕ) → part (RefusedLine n at) ≡ []) (at : ℕ) (s : State) where
  abbrev AsSaid : Call → State × Answer → Type 0
  AsSaid c r = flat_map part (answer_lines at s r.0 r.1) ≡ flat_map part (said_lines s r.0 (says c r.1))

  refusal_silent : (c : Call) (n : ℕ) → AsSaid c (s, Refused n)
  refusal_silent c n = ap (λ (xs : List X). xs ++ []) (no_refused n at)

  pub as_said : (c : Call) → AsSaid c (step s c)
  as_said (Enrol k a) = by_carried (own_clock s Enrolling k ∷ enrol_questions s.book a) s _ _ (AsSaid (Enrol k a)) refl (refusal_silent (Enrol k a))
  as_said (Begin k) = by_carried (own_clock s Enrolling k ∷ []) s _ _ (AsSaid (Begin k)) refl (refusal_silent (Begin k))
  as_said (Exit k i price) = by_carried (own_clock s Open k ∷ exit_questions (terms_of s) s.book i price) s _ _ (AsSaid (Exit k i price)) refl (refusal_silent (Exit k i price))
  as_said (Years k i years) = by_carried (own_clock s Open k ∷ years_questions s.book i years) s _ _ (AsSaid (Years k i years)) refl (refusal_silent (Years k i years))
  as_said (StepBack k) = by_carried (own_clock s Open k ∷ back_questions s.book) s _ _ (AsSaid (StepBack k)) refl (refusal_silent (StepBack k))
  as_said (Close k) =
      elim (within s.curve (floor_of s) (in_of s)) as (λ (b : Bool). AsSaid (Close k) (cond b (carried_out (own_clock s Open k ∷ []) s (moved_to s Settled s.round s.top s.book) (ClosedSettled (figures_of s) (stamp_of s))) (carried_out (own_clock s Open k ∷ []) s (moved_to s Shut s.round s.top (closed_book s.book)) (ClosedShut (figures_of s) (stamp_of s))))) [
        | true ↦ by_carried (own_clock s Open k ∷ []) s _ _ (AsSaid (Close k)) refl (refusal_silent (Close k))
        | false ↦ by_carried (own_clock s Open k ∷ []) s _ _ (AsSaid (Close k)) refl (refusal_silent (Close k))
      ]
  as_said (Next k) = by_carried (own_clock s Shut k ∷ []) s _ _ (AsSaid (Next k)) refl (refusal_silent (Next k))

-- the lines of a call and of what follows it
pub made_lines : {X : Type 0} (part : Line → List X) → ((n at : ℕ) → part (RefusedLine n at) ≡ []) → (s u : State) (at : ℕ) (c : Call) (es : List Event) → s ≡ u → flat_map part (lines_from (made u at c ∷ es)) ≡ flat_map part (said_lines s (step s c).0 (says c (step s c).1)) ++ flat_map part (lines_from es)
made_lines part no_refused s u at c es e =
    subst (λ (z : State). flat_map part (lines_from (made z at c ∷ es)) ≡ flat_map part (said_lines s (step s c).0 (says c (step s c).1)) ++ flat_map part (lines_from es)) e
    (joined_append part (lines_of (made s at c)) (lines_from es) ∙ ap (λ xs. xs ++ flat_map part (lines_from es)) (as_said part no_refused at s c))

-- The lines of a settlement

-- a part of each line that only CLEARED and AWARD lines have
pub record OfSettlement (part : Line → List Line) : Type 0 where
  pub no_round : (n top floor kw demand : ℕ) → part (Round n top floor kw demand) ≡ []
  pub no_refused : (n at : ℕ) → part (RefusedLine n at) ≡ []
  pub no_fault : (layer : Layer) (n at : ℕ) → part (Fault layer n at) ≡ []
  pub no_unsettled : part Unsettled ≡ []

module _ (part : Line → List Line) (only : OfSettlement part) where
  -- a settled auction refuses every call, so there is no more of it
  settled_silent : (es : List Event) (s t : State) → Linked s es t → s.stage ≡ Settled → flat_map part (lines_from es) ≡ []
  settled_silent [] s t h e = refl
  settled_silent (made u at c ∷ es) s t h e =
      let stays = settled_stays s (c ∷ []) e in
      made_lines part only.no_refused s u at c es h.0
      ∙ ap (λ (x : Saying). flat_map part (said_lines s (step s c).0 x) ++ flat_map part (lines_from es)) stays.0.0
      ∙ settled_silent es (step s c).0 t h.1 (ap (λ (z : State). z.stage) stays.1 ∙ e)
  settled_silent (faulted layer n at ∷ es) s t h e =
      ap (λ (xs : List Line). xs ++ flat_map part (lines_from es)) (only.no_fault layer n at) ∙ settled_silent es s t h e
  settled_silent (unsettled ∷ es) s t h e =
      ap (λ (xs : List Line). xs ++ flat_map part (lines_from es)) only.no_unsettled ∙ settled_silent es s t h e

  settled_end : (es : List Event) (s t : State) → Linked s es t → s.stage ≡ Settled → t ≡ s
  settled_end es s t h e = sym (linked_end es s t h) ∙ (settled_stays s (calls_in es) e).1

  abbrev OfEnd : State → List Line → Type 0
  OfEnd t lines = lines ≡ if_settled t (flat_map part (settled_lines t))

  unsettled_end : (s : State) → same_stage s.stage Settled ≡ false → OfEnd s []
  unsettled_end s e = sym (ap (λ (b : Bool). cond b (flat_map part (settled_lines s)) []) e)

  settled_now : (s : State) → s.stage ≡ Settled → OfEnd s (flat_map part (settled_lines s))
  settled_now s e = sym (ap (λ (g : Stage). cond (same_stage g Settled) (flat_map part (settled_lines s)) []) e)

  -- what a move of an auction that has not settled prints, and then its later events
  moves_on : (es : List Event) (s t : State) (move : Move s) → same_stage s.stage Settled ≡ false → Linked (after s move) es t → (same_stage (after s move).stage Settled ≡ false → OfEnd t (flat_map part (lines_from es))) → OfEnd t (flat_map part (said_lines s (after s move) (heard s move)) ++ flat_map part (lines_from es))
  moves_on es s t refusing e h more = more e
  moves_on es s t (enrolling a k) e h more = more e
  moves_on es s t (beginning k) e h more = more refl
  moves_on es s t (exiting i price k) e h more = more e
  moves_on es s t (serving i years k) e h more = more e
  moves_on es s t (backing k) e h more = more e
  moves_on es s t (shutting k) e h more =
      ap (λ (xs : List Line). (xs ++ []) ++ flat_map part (lines_from es)) (only.no_round _ _ _ _ _) ∙ more refl
  moves_on es s t (settling k) e h more =
      let u : State = moved_to s Settled s.round s.top s.book in
      let ends : t ≡ u = settled_end es u t h refl in
      let of-u : OfEnd u (flat_map part (settled_lines u)) = settled_now u refl in
      let lines : flat_map part (said_lines s u (closes (figures_of s) true)) ≡ flat_map part (settled_lines u) = ap (λ (xs : List Line). xs ++ flat_map part (settled_lines u)) (only.no_round _ _ _ _ _) in
      subst (λ (z : State). OfEnd z (flat_map part (said_lines s u (closes (figures_of s) true)) ++ flat_map part (lines_from es))) (sym ends)
      (ap (λ (xs : List Line). xs ++ flat_map part (lines_from es)) lines ∙ ap (λ (xs : List Line). flat_map part (settled_lines u) ++ xs) (settled_silent es u t h refl) ∙ append-nil (flat_map part (settled_lines u)) ∙ of-u)
  moves_on es s t (going_on k) e h more = more refl

  pub linked_settlement : (es : List Event) (s t : State) → Linked s es t → same_stage s.stage Settled ≡ false → OfEnd t (flat_map part (lines_from es))
  linked_settlement [] s t h e = subst (λ (z : State). OfEnd z []) h (unsettled_end s e)
  linked_settlement (made u at c ∷ es) s t h e =
      let m = moved s c in
      let after_is : (step s c).0 ≡ after s m.move = m.state_is in
      let more : same_stage (step s c).0.stage Settled ≡ false → OfEnd t (flat_map part (lines_from es)) = linked_settlement es (step s c).0 t h.1 in
      let rest : OfEnd t (flat_map part (said_lines s (after s m.move) (heard s m.move)) ++ flat_map part (lines_from es)) =
      moves_on es s t m.move e (subst (λ (z : State). Linked z es t) after_is h.1) (subst (λ (z : State). same_stage z.stage Settled ≡ false → OfEnd t (flat_map part (lines_from es))) after_is more) in
      made_lines part only.no_refused s u at c es h.0
      ∙ ap (λ (x : Saying). flat_map part (said_lines s (step s c).0 x) ++ flat_map part (lines_from es)) m.saying_is
      ∙ ap (λ (z : State). flat_map part (said_lines s z (heard s m.move)) ++ flat_map part (lines_from es)) after_is
      ∙ rest
  linked_settlement (faulted layer n at ∷ es) s t h e =
      ap (λ (xs : List Line). xs ++ flat_map part (lines_from es)) (only.no_fault layer n at) ∙ linked_settlement es s t h e
  linked_settlement (unsettled ∷ es) s t h e =
      ap (λ (xs : List Line). xs ++ flat_map part (lines_from es)) only.no_unsettled ∙ linked_settlement es s t h e

pub cleared_only : OfSettlement cleared_in
cleared_only = record { no_round = λ n top floor kw demand. refl; no_refused = λ n at. refl; no_fault = λ layer n at. refl; no_unsettled = refl }

pub award_only : OfSettlement award_in
award_only = record { no_round = λ n top floor kw demand. refl; no_refused = λ n at. refl; no_fault = λ layer n at. refl; no_unsettled = refl }
