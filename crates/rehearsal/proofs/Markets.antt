-- What a listing says in the market's words, of every file.
use Rattle.std.proofs.Common.{◌≡◌, ℕ, zero, suc, ◌+◌, ◌-◌, true, false, eqb, ltb, List, [], ◌∷◌, ◌++◌, Some, None, Ok, Err, Option, Result, sym, refl, ap, ◌∙◌, subst, arith}
use Rattle.std.proofs.lemmas.Bool.{cond-true, cond_both}
use Rattle.auction.specs.declared.calls.Call.{Call}
use Rattle.auction.specs.declared.clocks.Stage.{Stage}
use Rattle.auction.specs.declared.clocks.Stage.TheVariants.{Enrolling, Settled}
use Rattle.auction.specs.History.{played, ended}
use Rattle.auction.specs.Promise.{Promise}
use Rattle.auction.specs.State.{State, same_stage}
use Rattle.auction.specs.Steps.{open_questions}
use Rattle.auction.proofs.Promised.{laws_over_calls}
use Rattle.bidfile.specs.declared.records.CurveChoice.{CurveChoice}
use Rattle.bidfile.specs.declared.records.CurveChoice.TheVariants.{Straight, Stepped}
use Rattle.bidfile.specs.declared.records.Due.TheVariants as records
use Rattle.bidfile.specs.declared.records.OrderChoice.{OrderChoice}
use Rattle.bidfile.specs.declared.records.OrderChoice.TheVariants.{ByRule, ByName}
use Rattle.bidfile.specs.declared.records.TermsRecord.{TermsRecord}
use Rattle.bidfile.specs.Found.{Found, found, found_at, found_from, terms_at, length_questions}
use Rattle.bidfile.specs.Items.{Item, terms, in_turn, selected, size}
use Rattle.bidfile.specs.Words.{words, kind_at, value_at}
use Rattle.curve.specs.Corners.{corner_questions}
use Rattle.curve.specs.declared.corner.Corner.{Corner}
use Rattle.curve.specs.Questions.{first_no}
use Rattle.listing.specs.declared.fault.Layer.{Layer}
use Rattle.listing.specs.declared.fault.Layer.TheVariants.{File, Curve, Auction}
use Rattle.listing.specs.declared.line.Line.{Line}
use Rattle.listing.specs.declared.line.Line.TheVariants.{Fault}
use Rattle.rehearsal.specs.Events.{Event, faulted, as_terms, following, events}
use Rattle.rehearsal.specs.Listing.{lines_from, listing}
use Rattle.rehearsal.specs.Market.{calls_in, corners_in, terms_in, opened_in, if_settled, Followed, OnlyFault, Market}
use Rattle.rehearsal.specs.Progress.{Progress, fresh, gathering, over, due, own_number, opened_with, opening}
use Rattle.rehearsal.proofs.CountedRounds.{counted_opened, linked_rounds}
use Rattle.rehearsal.proofs.LinkedEvents.{Linked, linked_end, From}
use Rattle.rehearsal.proofs.LinkedLines.{settled_cleared, settled_awards, linked_refusals, linked_settlement, cleared_only, award_only}
use Rattle.rehearsal.proofs.OpenedRuns.{by_handed, item_sound, Opens, fault_opens, gathering_opens}
use Rattle.selection.proofs.SelectedLaws.{selected_curve_laws, selected_ties_laws}
use Rattle.selection.specs.Selected.{shape, selected_curve, selected_ties}

-- an auction that terms and corners opened
record Started (s : State) : Type 0 where
  enrolling : s.stage ≡ Enrolling
  promise : (calls : List Call) → Promise s (played s calls) (ended s calls)

abbrev Starts : Result State (Layer × ℕ) → Type 0
Starts (Ok s) = Started s
Starts (Err e) = Unit {0}

opening_starts : (t : TermsRecord) (corners : List Corner) → Starts (opening t corners)
opening_starts t corners = curve_asked (first_no (corner_questions (shape t.curve) corners)) refl
  where
    open_asked : first_no (corner_questions (shape t.curve) corners) ≡ None → (o : Option ℕ) → first_no (open_questions (selected_curve t.curve corners) t.«cap» t.spread t.threshold) ≡ o → Starts (elim o [ Some n ↦ Err (Auction, n) | None ↦ Ok (opened_with t corners) ])
    open_asked passed (Some n) e = tt
    open_asked passed None e =
        record {
          enrolling = refl;
          promise = laws_over_calls own_number t.«cap» t.spread t.threshold (selected_curve t.curve corners) (selected_ties t.order) (selected_curve_laws t.curve corners passed) (selected_ties_laws t.order) e;
        }

    curve_asked : (o : Option ℕ) → first_no (corner_questions (shape t.curve) corners) ≡ o → Starts (elim o [ Some n ↦ Err (Curve, n) | None ↦ elim (first_no (open_questions (selected_curve t.curve corners) t.«cap» t.spread t.threshold)) [ Some n ↦ Err (Auction, n) | None ↦ Ok (opened_with t corners) ] ])
    curve_asked (Some n) e = tt
    curve_asked None e = open_asked e (first_no (open_questions (selected_curve t.curve corners) t.«cap» t.spread t.threshold)) refl

-- linked events of such an auction
followed : (s : State) (es : List Event) → Started s → From s es → Followed s (calls_in es) (lines_from es)
followed s es start f =
    let end : State = ended s (calls_in es) in
    let linked : Linked s es end = subst (Linked s es) (sym (linked_end es s f.leaves f.linked)) f.linked in
    let unsettled : same_stage s.stage Settled ≡ false = ap (λ (g : Stage). same_stage g Settled) start.enrolling in
    record {
      rounds = linked_rounds s.top s.spread es 0 s end linked (counted_opened s.top s.spread s start.enrolling refl refl);
      refused = linked_refusals es s end linked;
      cleared = linked_settlement _ cleared_only es s end linked unsettled ∙ ap (if_settled end) (settled_cleared end);
      awards = linked_settlement _ award_only es s end linked unsettled ∙ ap (if_settled end) (settled_awards end);
      promise = start.promise (calls_in es);
    }

-- the theorem of an auction that is opened or not
abbrev SaidOf : Option State → List Call → List Line → Type 0
SaidOf o calls lines = elim o [ None ↦ OnlyFault lines | Some s ↦ Followed s calls lines ]

abbrev Said : Option State → List Event → Type 0
Said o es = SaidOf o (calls_in es) (lines_from es)

abbrev if_opened : Result State (Layer × ℕ) → Option State
if_opened r = elim r [ Ok s ↦ Some s | Err e ↦ None ]

opened_said : (r : Result State (Layer × ℕ)) (es : List Event) → Starts r → Opens r es → Said (if_opened r) es
opened_said (Ok s) es start from = followed s es start from
opened_said (Err e) es start fault = fault

-- by the terms, if they stand first
abbrev opened_by_terms : List Found → Option TermsRecord → Option State
opened_by_terms fs o = elim o [ None ↦ None | Some t ↦ if_opened (opening t (corners_in fs)) ]

-- one fault says so of every file
fault_said : (fs : List Found) (layer : Layer) (n at : ℕ) → Said (opened_in fs) (faulted layer n at ∷ [])
fault_said [] layer n at = (layer, n, at, refl)
fault_said (f ∷ fs) layer n at = by_terms (terms_in f)
  where
    by_terms : (o : Option TermsRecord) → Said (opened_by_terms fs o) (faulted layer n at ∷ [])
    by_terms None = (layer, n, at, refl)
    by_terms (Some t) =
        opened_said (opening t (corners_in fs)) (faulted layer n at ∷ []) (opening_starts t (corners_in fs)) (fault_opens (opening t (corners_in fs)) layer n at)

-- the first record
abbrev first_taken : Option TermsRecord → List Event × Progress
first_taken o = elim o [ None ↦ ([], over) | Some t ↦ ([], gathering t []) ]

terms_said : (fs : List Found) (t : TermsRecord) → Said (opened_by_terms fs (Some t)) (events (gathering t []) fs)
terms_said fs t =
    opened_said (opening t (corners_in fs)) (events (gathering t []) fs) (opening_starts t (corners_in fs)) (gathering_opens fs t [])

-- a record of kind 1 is the terms
abbrev TermsFirst : Found → Type 0
TermsFirst f = (item : Item) → in_turn records.Terms f.kind ≡ true → f.item ≡ Some item → (t : TermsRecord) × (as_terms item ≡ Some t)

first_said : (f : Found) (fs : List Found) → TermsFirst f → Said (opened_in (f ∷ fs)) (events fresh (f ∷ fs))
first_said f fs only =
    by_handed (due fresh) f fs (λ r. Said (opened_in (f ∷ fs)) (following fresh r (λ q. events q fs)))
    (λ n at. fault_said (f ∷ fs) File n at)
    (λ item whole turn is.
    let first = only item turn is in
    let found-terms : terms_in f ≡ Some first.0 = ap (λ (o : Option Item). elim o [ None ↦ None | Some x ↦ as_terms x ]) (item_sound f item whole is) ∙ first.1 in
    subst (λ (o : Option TermsRecord). Said (opened_by_terms fs o) ((first_taken (as_terms item)).0 ++ events (first_taken (as_terms item)).1 fs)) (sym found-terms)
    (subst (λ (o : Option TermsRecord). Said (opened_by_terms fs (Some first.0)) ((first_taken o).0 ++ events (first_taken o).1 fs)) (sym first.1) (terms_said fs first.0)))

-- what is found first in a file
module _ (bytes : List ℕ) where
  terms_chosen : (item : Item) (high spread threshold : ℕ) (c : Option CurveChoice) (o : Option OrderChoice) → elim c [ None ↦ None | Some curve ↦ elim o [ None ↦ None | Some order ↦ Some (terms (record { «cap» = high; spread = spread; threshold = threshold; curve = curve; order = order })) ] ] ≡ Some item → (t : TermsRecord) × (as_terms item ≡ Some t)
  terms_chosen item high spread threshold None o e = absurd (let z : ◌≡◌ {A = ℕ} 0 1 = cc in omega arith)
  terms_chosen item high spread threshold (Some curve) None e = absurd (let z : ◌≡◌ {A = ℕ} 0 1 = cc in omega arith)
  terms_chosen item high spread threshold (Some curve) (Some order) e =
      let t : TermsRecord = record { «cap» = high; spread = spread; threshold = threshold; curve = curve; order = order } in
      let is : item ≡ terms t = cc in
      (t, ap as_terms is)

  terms_first : (at : ℕ) → TermsFirst (found_at bytes at)
  terms_first at item turn is =
      terms_chosen item (value_at bytes at) (value_at bytes (at + 1)) (value_at bytes (at + 2)) (selected Straight Stepped (value_at bytes (at + 3))) (selected ByRule ByName (value_at bytes (at + 4)))
      (sym (cond-true (eqb (kind_at bytes at) 1) (terms_at bytes at) _ turn) ∙ is)

  by_first : (n : ℕ) (P : List Found → Type 0) → P [] → ((fs : List Found) → P (found_at bytes 0 ∷ fs)) → P (found_from n bytes 0)
  by_first zero P none some = none
  by_first (suc n) P none some =
      cond_both (ltb 0 (words bytes)) (found_at bytes 0 ∷ found_from n bytes (0 + size (kind_at bytes 0))) [] P (λ e. some (found_from n bytes (0 + size (kind_at bytes 0)))) (λ e. none)

  found_said : Said (opened_in (found bytes 0)) (events fresh (found bytes 0))
  unfolding found
  found_said =
      by_first (words bytes - 0) (λ fs. Said (opened_in fs) (events fresh fs))
      (fault_said [] File 26 0)
      (λ fs. first_said (found_at bytes 0) fs (terms_first 0))

-- of every file
pub market : (bytes : List ℕ) → Market bytes (listing bytes)
market bytes =
    elim (first_no (length_questions bytes)) as (λ (o : Option ℕ). SaidOf (opened_in (found bytes 0)) (elim o [ Some n ↦ [] | None ↦ calls_in (events fresh (found bytes 0)) ]) (elim o [ Some n ↦ Fault File n 0 ∷ [] | None ↦ lines_from (events fresh (found bytes 0)) ])) [ Some n ↦ fault_said (found bytes 0) File n 0 | None ↦ found_said bytes ]
