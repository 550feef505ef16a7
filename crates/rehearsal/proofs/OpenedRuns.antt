-- A run opens the auction of the terms and the corners that stand first in its file, or ends with one fault.
use Rattle.std.proofs.Common.{◌≡◌, ℕ, Bool, true, cond, List, [], ◌∷◌, ◌++◌, Some, None, Ok, Err, Option, Result, sym, refl, ap, ◌∙◌, subst}
use Rattle.std.proofs.lemmas.List.{append-nil, append_assoc}
use Rattle.std.proofs.lemmas.Bool.{and_parts, false≢true}
use Rattle.auction.specs.State.{State}
use Rattle.bidfile.specs.declared.records.Due.{Due}
use Rattle.bidfile.specs.declared.records.TermsRecord.{TermsRecord}
use Rattle.bidfile.specs.Found.{Found, is_some, record_questions, handed}
use Rattle.bidfile.specs.Items.{Item, in_turn}
use Rattle.curve.specs.declared.corner.Corner.{Corner}
use Rattle.curve.specs.Questions.{first_no}
use Rattle.listing.specs.declared.fault.Layer.{Layer}
use Rattle.rehearsal.specs.Events.{Event, faulted, as_corner, heard, go_on, left, ending, following, events}
use Rattle.rehearsal.specs.Listing.{lines_from}
use Rattle.rehearsal.specs.Market.{sound_item, corners_in, OnlyFault}
use Rattle.rehearsal.specs.Progress.{Progress, gathering, going, over, due, opening}
use Rattle.rehearsal.proofs.LinkedEvents.{From, left_from, heard_then, going_from}
use Rattle.selection.proofs.SelectedLaws.{none_no}

-- what the reader hands out of a record that is found, and what its questions established
pub by_handed : (d : Due) (f : Found) (fs : List Found) (P : Result (Option (ℕ × Item)) (ℕ × ℕ) → Type 0)
    → ((n at : ℕ) → P (Err (n, at)))
    → ((item : Item) → f.whole ≡ true → in_turn d f.kind ≡ true → f.item ≡ Some item → P (Ok (Some (f.place, item))))
    → P (handed d (f ∷ fs))
by_handed d f fs P fault handed_out = asked (first_no (record_questions d f)) refl
  where
    item_found : f.whole ≡ true → in_turn d f.kind ≡ true → (o : Option Item) → is_some o ≡ true → f.item ≡ o → P (elim o [ None ↦ Ok None | Some item ↦ Ok (Some (f.place, item)) ])
    item_found whole turn None some e = absurd (false≢true some)
    item_found whole turn (Some item) some e = handed_out item whole turn e

    asked : (o : Option ℕ) → first_no (record_questions d f) ≡ o → P (elim o [ Some n ↦ Err (n, f.place) | None ↦ elim f.item [ None ↦ Ok None | Some item ↦ Ok (Some (f.place, item)) ] ])
    asked (Some n) e = fault n f.place
    asked None e =
        let q24 = and_parts _ _ (none_no (record_questions d f) e) in
        let q25 = and_parts _ _ q24.1 in
        let q26 = and_parts _ _ q25.1 in
        item_found q25.0 q26.0 f.item (and_parts _ _ q26.1).0 refl

-- a record that was handed out is sound
pub item_sound : (f : Found) (item : Item) → f.whole ≡ true → f.item ≡ Some item → sound_item f ≡ Some item
item_sound f item whole is = ap (λ (b : Bool). cond b f.item None) whole ∙ is

-- events of a run that opens an auction or does not: they start from that auction, or are one fault
abbrev pub Opens : Result State (Layer × ℕ) → List Event → Type 0
Opens (Ok s) es = From s es
Opens (Err e) es = OnlyFault (lines_from es)

pub fault_opens : (r : Result State (Layer × ℕ)) (layer : Layer) (n at : ℕ) → Opens r (faulted layer n at ∷ [])
fault_opens (Ok s) layer n at = record { leaves = s; linked = refl }
fault_opens (Err e) layer n at = (layer, n, at, refl)

ending_opens : (r : Result State (Layer × ℕ)) → Opens r (elim r [ Err e ↦ faulted e.0 e.1 0 ∷ [] | Ok s ↦ left s ])
ending_opens (Ok s) = left_from s
ending_opens (Err e) = (e.0, e.1, 0, refl)

-- an ended run does no more
over_none : (fs : List Found) → events over fs ≡ []
over_none [] = refl
over_none (f ∷ fs) = refl

-- the first record that is no corner
abbrev opens_at : ℕ → Item → Result State (Layer × ℕ) → List Event × Progress
opens_at at item r = elim r [ Err e ↦ (faulted e.0 e.1 0 ∷ [], over) | Ok s ↦ go_on (heard at s item) ]

first_opens : (at : ℕ) (item : Item) (fs : List Found) (r : Result State (Layer × ℕ)) → Opens r ((opens_at at item r).0 ++ events (opens_at at item r).1 fs)
first_opens at item fs (Ok s) = heard_then at s item (events (going (heard at s item).1) fs) (going_from fs (heard at s item).1)
first_opens at item fs (Err e) =
    subst (λ (later : List Event). OnlyFault (lines_from (faulted e.0 e.1 0 ∷ later))) (sym (over_none fs)) (e.0, e.1, 0, refl)

-- the corners so far and those that follow open the auction
abbrev rest_of : List Found → Option Corner → List Corner
rest_of fs o = elim o [ None ↦ [] | Some c ↦ c ∷ corners_in fs ]

abbrev takes : TermsRecord → List Corner → ℕ → Item → Option Corner → List Event × Progress
takes t cs at item o = elim o [ Some c ↦ ([], gathering t (cs ++ c ∷ [])) | None ↦ opens_at at item (opening t cs) ]

corner_or_not : (at : ℕ) (item : Item) (fs : List Found) (t : TermsRecord) (cs : List Corner) → ((c : Corner) → Opens (opening t ((cs ++ c ∷ []) ++ corners_in fs)) (events (gathering t (cs ++ c ∷ [])) fs)) → (o : Option Corner) → Opens (opening t (cs ++ rest_of fs o)) ((takes t cs at item o).0 ++ events (takes t cs at item o).1 fs)
corner_or_not at item fs t cs more None =
    subst (λ (xs : List Corner). Opens (opening t xs) ((opens_at at item (opening t cs)).0 ++ events (opens_at at item (opening t cs)).1 fs)) (sym (append-nil cs)) (first_opens at item fs (opening t cs))
corner_or_not at item fs t cs more (Some c) =
    subst (λ (xs : List Corner). Opens (opening t xs) (events (gathering t (cs ++ c ∷ [])) fs)) (append_assoc cs (c ∷ []) (corners_in fs)) (more c)

pub gathering_opens : (fs : List Found) (t : TermsRecord) (cs : List Corner) → Opens (opening t (cs ++ corners_in fs)) (events (gathering t cs) fs)
gathering_opens [] t cs =
    subst (λ (xs : List Corner). Opens (opening t xs) (ending (gathering t cs))) (sym (append-nil cs)) (ending_opens (opening t cs))
gathering_opens (f ∷ fs) t cs =
    by_handed (due (gathering t cs)) f fs (λ r. Opens (opening t (cs ++ corners_in (f ∷ fs))) (following (gathering t cs) r (λ q. events q fs)))
    (λ n at. fault_opens (opening t (cs ++ corners_in (f ∷ fs))) _ n at)
    (λ item whole turn is. subst (λ (o : Option Corner). Opens (opening t (cs ++ rest_of fs o)) ((takes t cs f.place item (as_corner item)).0 ++ events (takes t cs f.place item (as_corner item)).1 fs)) (sym (ap (λ (o : Option Item). elim o [ None ↦ None | Some x ↦ as_corner x ]) (item_sound f item whole is)))
    (corner_or_not f.place item fs t cs (λ c. gathering_opens fs t (cs ++ c ∷ [])) (as_corner item)))
