-- What is made of a record and of the end of the file, part by part.
use Rattle.std.proofs.Common.{◌≡◌, ℕ, List, [], ◌∷◌, ◌++◌, length, Some, None, Ok, Err, Option, Result, sym, refl, ap, ◌∙◌, arith}
use Rattle.std.specs.Borrow.{Bor}
use Rattle.std.specs.Option.{option_to_list}
use Rattle.auction.specs.declared.clocks.Stage.{Stage}
use Rattle.auction.specs.declared.clocks.Stage.TheVariants.{Enrolling, Open, Shut, Settled}
use Rattle.auction.specs.State.{State}
use Rattle.bidfile.specs.declared.records.TermsRecord.{TermsRecord}
use Rattle.bidfile.specs.declared.records.Record.{Record}
use Rattle.bidfile.specs.declared.records.Record.TheVariants.{Terms, Corner as Corner', Unit as Unit', Exit, Years, StepBack, Close}
use Rattle.bidfile.specs.Items.{Item, item_of}
use Rattle.curve.specs.declared.corner.Corner.{Corner}
use Rattle.listing.specs.declared.fault.Layer.{Layer}
use Rattle.listing.specs.declared.line.Line.{Line}
use Rattle.rehearsal.specs.Events.{Event, faulted, told, begin_in, left, unless_settled, heard, go_on, taken, as_corner}
use Rattle.rehearsal.specs.Hearing.{begun_in}
use Rattle.rehearsal.specs.Listing.{lines_from}
use Rattle.rehearsal.specs.Progress.{Progress, gathering, going, over, opening}
use Rattle.rehearsal.specs.Saying.{spoken, in_full, settled_lines}
use Rattle.rehearsal.specs.Takes.{as_lines}
use Rattle.rehearsal.proofs.Hears.{lines_append, begin_is, begin_told}

pub no_items : {A : Type 0} (xs : List A) → length xs ≡ 0 → xs ≡ []
no_items [] e = refl
no_items (x ∷ xs) e = absurd (omega arith)

-- the end of the file

unless_begun : (s : State) (k : Stage) → s.stage ≡ k → unless_settled (begun_in s k).stage ≡ unless_settled k
unless_begun s Enrolling e = ap unless_settled (begin_is s e).0
unless_begun s Open e = ap unless_settled e
unless_begun s Shut e = ap unless_settled e
unless_begun s Settled e = ap unless_settled e

pub finish_lines : (s : State) (k l : Stage) (lines : List Line) → s.stage ≡ k → (begun_in s k).stage ≡ l → lines ≡ lines_from (unless_settled l) → lines ≡ lines_from (left s)
finish_lines s k l lines ek el e =
    let begins : lines_from (told 0 s (begin_in s.stage)).0 ≡ [] = ap (λ p. p.1) (begin_told 0 s s.stage refl) in
    let same : unless_settled l ≡ unless_settled s.stage = ap unless_settled (sym el) ∙ unless_begun s k ek ∙ ap unless_settled (sym ek) in
    let whole : lines_from (left s) ≡ lines_from (unless_settled s.stage) =
    lines_append (told 0 s (begin_in s.stage)).0 (unless_settled s.stage) ∙ ap (λ z. z ++ lines_from (unless_settled s.stage)) begins in
    e ∙ ap lines_from same ∙ sym whole

-- the first record past the corners

abbrev gathered : TermsRecord → List Corner → ℕ → Item → Option Corner → Result State (Layer × ℕ) → List Event × Progress
gathered t corners at item o r =
    elim o [ Some c ↦ ([], gathering t (corners ++ c ∷ [])) | None ↦ elim r [ Err e ↦ (faulted e.0 e.1 0 ∷ [], over) | Ok s ↦ go_on (heard at s item) ] ]

pub opened_takes : (t : TermsRecord) (corners : List Corner) (at : ℕ) (item : Item) (s u : State) (line : Option Line) → as_corner item ≡ None → Ok s ≡ opening t corners → in_full (u, line) ≡ spoken (heard at s item) → ◌≡◌ {A = Progress × List Line} (going u, option_to_list line ++ settled_lines u) (as_lines (taken (gathering t corners) at item))
opened_takes t corners at item s u line none opens e =
    ap (λ p. (going p.0, p.1)) e
    ∙ ap (λ r. as_lines (gathered t corners at item None r)) opens
    ∙ ap (λ o. as_lines (gathered t corners at item o (opening t corners))) (sym none)

pub not_corner : (r : Record (Bor (List ℕ))) → ((x : Corner) → r ≡ Corner' x → ⊥) → as_corner (item_of r) ≡ None
not_corner (Terms t) h = refl
not_corner (Corner' x) h = absurd (h x refl)
not_corner (Unit' u) h = refl
not_corner (Exit x) h = refl
not_corner (Years y) h = refl
not_corner StepBack h = refl
not_corner Close h = refl
