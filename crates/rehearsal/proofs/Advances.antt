-- One step of a run: what is found, read on by a record.
use Rattle.std.proofs.Common.{◌≡◌, ℕ, ◌+◌, ◌*◌, ◌<◌, ◌≤◌, Bool, true, false, cond, ◌&&◌, leb, List, [], ◌∷◌, ◌++◌, length, take, drop, Some, None, Ok, Err, vec_items, Option, Result, sym, refl, ap, ◌∙◌, subst, arith, length-append, length-drop, length-take, le-leb, leb-true}
use Rattle.std.specs.List.{flat_map}
use Rattle.std.specs.Option.{option_to_list}
use Rattle.std.proofs.lemmas.Bool.{and_parts, false≢true}
use Rattle.auction.specs.declared.clocks.Stage.{Stage}
use Rattle.auction.specs.declared.clocks.Stage.TheVariants.{Enrolling, Open, Shut, Settled}
use Rattle.auction.specs.State.{State}
use Rattle.bidfile.specs.declared.fault.FileQuestion.{FileQuestion}
use Rattle.bidfile.specs.declared.fault.FileQuestion.TheVariants as file
use Rattle.bidfile.specs.declared.records.Due.{Due}
use Rattle.bidfile.specs.declared.records.TermsRecord.{TermsRecord}
use Rattle.curve.specs.declared.corner.Corner.{Corner}
use Rattle.bidfile.specs.Found.{Found, found, found_at, handed, item_at, known_kind, later}
use Rattle.bidfile.specs.Items.{Item, terms, corner, unit, exit, years, step_back, close, item_kind, size, in_turn, may_end}
use Rattle.bidfile.specs.Layout.{layout, words_of, word_bytes}
use Rattle.bidfile.specs.Reading.{read_out, Stands}
use Rattle.bidfile.specs.Words.{words, kind_at}
use Rattle.bidfile.proofs.FoundPlaces.{size_some, found_more}
use Rattle.bidfile.proofs.ItemKinds.{placed, handed_placed, read_parts, found_kind}
use Rattle.listing.specs.declared.fault.Layer.{Layer}
use Rattle.listing.specs.declared.fault.Layer.TheVariants.{File}
use Rattle.listing.specs.declared.fault.Unopenable.{Unopenable}
use Rattle.listing.specs.declared.line.Line.{Line}
use Rattle.listing.specs.declared.line.Line.TheVariants as line
use Rattle.rehearsal.specs.declared.progress.Progress.{Progress as Coded}
use Rattle.rehearsal.specs.declared.progress.Progress.TheVariants as coded
use Rattle.rehearsal.specs.Events.{Event, faulted, taken, ending, following, events, heard, go_on}
use Rattle.rehearsal.specs.Hearing.{Eight, can_hear}
use Rattle.rehearsal.specs.Left.{lines_ahead}
use Rattle.rehearsal.specs.Listing.{lines_from}
use Rattle.rehearsal.specs.Progress.{Progress, fresh, gathering, going, over, is_over, due, due_in, opening}
use Rattle.rehearsal.specs.Sessions.{session_stage, unshut}
use Rattle.rehearsal.specs.Soundness.{roomy, sound}
use Rattle.rehearsal.specs.Takes.{progress_of, progress_lines, unshut_in, Takeable, taken_as, as_lines, auction_fault_line}
use Rattle.rehearsal.proofs.Hears.{lines_append}
use Rattle.rehearsal.proofs.OwnStages.{stage_is}

-- what happens, by what the reader hands out

events_fault : (p : Progress) (fs : List Found) (n at : ℕ) → is_over p ≡ false → Err (n, at) ≡ handed (due p) fs → events p fs ≡ faulted File n at ∷ []
events_fault p [] n at on e =
    ap (λ b. cond b [] (following p (handed (due p) []) (λ q. []))) on ∙ ap (λ r. following p r (λ q. [])) (sym e)
events_fault p (f ∷ fs) n at on e =
    ap (λ b. cond b [] (following p (handed (due p) (f ∷ fs)) (λ q. events q fs))) on ∙ ap (λ r. following p r (λ q. events q fs)) (sym e)

events_end : (p : Progress) (fs : List Found) → is_over p ≡ false → Ok None ≡ handed (due p) fs → events p fs ≡ ending p
events_end p [] on e =
    ap (λ b. cond b [] (following p (handed (due p) []) (λ q. []))) on ∙ ap (λ r. following p r (λ q. [])) (sym e)
events_end p (f ∷ fs) on e =
    ap (λ b. cond b [] (following p (handed (due p) (f ∷ fs)) (λ q. events q fs))) on ∙ ap (λ r. following p r (λ q. events q fs)) (sym e)

no_record : (b : Bool) (at : ℕ) (item : Item) → ◌≡◌ {A = Result (Option (ℕ × Item)) (ℕ × ℕ)} (Ok (Some (at, item))) (cond b (Ok None) (Err (26, 0))) → ⊥
no_record true at item e = let z : ◌≡◌ {A = ℕ} 0 1 = cc in omega arith
no_record false at item e = let z : ◌≡◌ {A = ℕ} 0 1 = cc in omega arith

events_record : (p : Progress) (fs : List Found) (at : ℕ) (item : Item) → is_over p ≡ false → Ok (Some (at, item)) ≡ handed (due p) fs → events p fs ≡ (taken p at item).0 ++ events (taken p at item).1 (later fs)
events_record p [] at item on e = absurd (no_record (may_end (due p)) at item e)
events_record p (f ∷ fs) at item on e =
    ap (λ b. cond b [] (following p (handed (due p) (f ∷ fs)) (λ q. events q fs))) on ∙ ap (λ r. following p r (λ q. events q fs)) (sym e)

pub events_over : (fs : List Found) → events over fs ≡ []
events_over [] = refl
events_over (f ∷ fs) = refl

pub ahead_fault : (p : Coded) (fs : List Found) (n at : ℕ) → is_over (progress_of p) ≡ false → Err (n, at) ≡ handed (due (progress_of p)) fs → lines_ahead p fs ≡ line.Fault File n at ∷ []
unfolding lines_ahead
ahead_fault p fs n at on e = ap lines_from (events_fault (progress_of p) fs n at on e)

pub ahead_end : (p : Coded) (fs : List Found) → is_over (progress_of p) ≡ false → Ok None ≡ handed (due (progress_of p)) fs → lines_ahead p fs ≡ lines_from (ending (progress_of p))
unfolding lines_ahead
ahead_end p fs on e = ap lines_from (events_end (progress_of p) fs on e)

pub ahead_record : (p : Coded) (fs rest : List Found) (at : ℕ) (item : Item) (q : Progress) (lines : List Line) → is_over (progress_of p) ≡ false → Ok (Some (at, item)) ≡ handed (due (progress_of p)) fs → rest ≡ later fs → ◌≡◌ {A = Progress × List Line} (q, lines) ((taken (progress_of p) at item).1, lines_from (taken (progress_of p) at item).0) → lines ++ lines_from (events q rest) ≡ lines_ahead p fs
unfolding lines_ahead
ahead_record p fs rest at item q lines on e r t =
    ap (λ z. z.1 ++ lines_from (events z.0 rest)) t
    ∙ ap (λ z. lines_from (taken (progress_of p) at item).0 ++ lines_from (events (taken (progress_of p) at item).1 z)) r
    ∙ sym (ap lines_from (events_record (progress_of p) fs at item on e) ∙ lines_append (taken (progress_of p) at item).0 (events (taken (progress_of p) at item).1 (later fs)))

-- a record that is handed out is in turn, and stands where the reader was

placed_parts : (at place : ℕ) (item : Item) (r : Result Item FileQuestion) → Ok (Some (place, item)) ≡ placed at r → (place ≡ at) × (r ≡ Ok item)
placed_parts at place item (Ok j) e =
    let one : ◌≡◌ {A = Option (ℕ × Item)} (Some (place, item)) (Some (at, j)) = cc e in
    let same : ◌≡◌ {A = ℕ × Item} (place, item) (at, j) = cc one in
    (ap (λ p. p.0) same, ap (λ p. Ok p.1) (sym same))
placed_parts at place item (Err q) e = let z : ◌≡◌ {A = ℕ} 0 1 = cc e in absurd (omega arith)

turn_part : (k w t : Bool) (o : Option Item) (item : Item) → read_out (cond k (cond w (cond t (Ok tt) (Err file.Turn)) (Err file.Words)) (Err file.Kind)) o ≡ Ok item → t ≡ true
turn_part true true true o item h = refl
turn_part true true false o item h = let z : ◌≡◌ {A = ℕ} 0 1 = cc h in absurd (omega arith)
turn_part true false t o item h = let z : ◌≡◌ {A = ℕ} 0 1 = cc h in absurd (omega arith)
turn_part false w t o item h = let z : ◌≡◌ {A = ℕ} 0 1 = cc h in absurd (omega arith)

handed_turn : (d : Due) (bytes : List ℕ) (at place : ℕ) (item : Item) → at < words bytes → Ok (Some (place, item)) ≡ handed d (found bytes at) → (in_turn d (item_kind item) ≡ true) × (place ≡ at)
handed_turn d bytes at place item here e =
    let rest : List Found = found bytes (at + size (kind_at bytes at)) in
    let there = placed_parts at place item _ (e ∙ ap (handed d) (found_more bytes at here) ∙ handed_placed d (found_at bytes at) rest) in
    let parts = read_parts d bytes at item there.1 in
    let turn : in_turn d (kind_at bytes at) ≡ true = turn_part (known_kind (kind_at bytes at)) (found_at bytes at).whole (in_turn d (kind_at bytes at)) (item_at bytes at) item there.1 in
    (ap (in_turn d) (found_kind bytes at item parts.known parts.is) ∙ turn, there.0)

eight : (bytes : List ℕ) (place : ℕ) (item : Item) → Stands bytes place item → place + size (item_kind item) ≤ words bytes → Eight item
eight bytes place (terms t) e fits = tt
eight bytes place (corner c) e fits = tt
eight bytes place (unit u) e fits =
    let laid : length (take 28 (drop (4 * place) bytes)) ≡ length (layout (unit u)) = ap length e in
    let written = length-append (flat_map word_bytes (words_of (unit u))) u.bytes in
    let front : length (flat_map word_bytes (words_of (unit u))) ≡ 20 = refl in
    let long = length-take 28 (drop (4 * place) bytes) in
    let rest = length-drop (4 * place) bytes in
    omega arith
eight bytes place (exit x) e fits = tt
eight bytes place (years y) e fits = tt
eight bytes place step_back e fits = tt
eight bytes place close e fits = tt

hearable : (k : Stage) (kind : ℕ) → in_turn (due_in k) kind ≡ true → unshut k ≡ true → can_hear k kind ≡ true
hearable Enrolling kind t u = t
hearable Open kind t u = t
hearable Shut kind t u = absurd (false≢true u)
hearable Settled kind t u = absurd (false≢true t)

pub sound_parts : (p : Coded) (at n : ℕ) → sound p at n ≡ true → (roomy (progress_of p) at n ≡ true) × (unshut_in p ≡ true)
unfolding sound
sound_parts p at n h = and_parts (roomy (progress_of p) at n) (unshut_in p) h

pub sound_both : (p : Coded) (at n : ℕ) → roomy (progress_of p) at n ≡ true → unshut_in p ≡ true → sound p at n ≡ true
unfolding sound
sound_both p at n r u = ap (λ b. b && unshut_in p) r ∙ u

takeable_turn : (p : Coded) (at n : ℕ) (item : Item) → is_over (progress_of p) ≡ false → roomy (progress_of p) at n ≡ true → unshut_in p ≡ true → in_turn (due (progress_of p)) (item_kind item) ≡ true → at < n → Eight item → Takeable p item
takeable_turn (coded.Fresh s) at n item on r u turn here named = turn
takeable_turn (coded.Gathering g) at n item on r u turn here named =
    let parts = and_parts (leb (2 * length (vec_items g.corners) + 5) at) (leb n 16383) r in
    let many = leb-true (2 * length (vec_items g.corners) + 5) at parts.0 in
    let short = leb-true n 16383 parts.1 in
    (turn, (omega arith, named))
takeable_turn (coded.Going x) at n item on r u turn here named =
    (hearable (session_stage x) (item_kind item) (subst (λ k. in_turn (due_in k) (item_kind item) ≡ true) (stage_is x) turn) u, named)
takeable_turn coded.Over at n item on r u turn here named = absurd (false≢true (sym on))

pub takeable : (p : Coded) (bytes : List ℕ) (at end place : ℕ) (item : Item) → sound p at (words bytes) ≡ true → is_over (progress_of p) ≡ false → Ok (Some (place, item)) ≡ handed (due (progress_of p)) (found bytes at) → end ≡ at + size (item_kind item) → end ≤ words bytes → Stands bytes place item → Takeable p item
takeable p bytes at end place item h on e moved within laid =
    let one = size_some (item_kind item) in
    let here : at < words bytes = omega arith in
    let turn = handed_turn (due (progress_of p)) bytes at place item here e in
    let is : place ≡ at = turn.1 in
    let parts = sound_parts p at (words bytes) h in
    takeable_turn p at (words bytes) item on parts.0 parts.1 turn.0 here (eight bytes place item laid (omega arith))

-- the room that there is after a record

opened_roomy : (t : TermsRecord) (cs : List Corner) (place : ℕ) (item : Item) (end n : ℕ) (r : Result State (Layer × ℕ)) → roomy (elim r as (λ z. List Event × Progress) [ Err e ↦ (faulted e.0 e.1 0 ∷ [], over) | Ok s ↦ go_on (heard place s item) ]).1 end n ≡ true
opened_roomy t cs place item end n (Ok s) = refl
opened_roomy t cs place item end n (Err e) = refl

pub roomy_after : (q : Progress) (at end n place : ℕ) (item : Item) → roomy q at n ≡ true → end ≡ at + size (item_kind item) → roomy (taken q place item).1 end n ≡ true
roomy_after fresh at end n place (terms t) r moved = ap (λ b. b && leb n 16383) (le-leb 5 end (omega arith)) ∙ r
roomy_after fresh at end n place (corner c) r moved = refl
roomy_after fresh at end n place (unit u) r moved = refl
roomy_after fresh at end n place (exit x) r moved = refl
roomy_after fresh at end n place (years y) r moved = refl
roomy_after fresh at end n place step_back r moved = refl
roomy_after fresh at end n place close r moved = refl
roomy_after (gathering t cs) at end n place (corner c) r moved =
    let parts = and_parts (leb (2 * length cs + 5) at) (leb n 16383) r in
    let many = leb-true (2 * length cs + 5) at parts.0 in
    let more = length-append cs (c ∷ []) in
    ap (λ b. b && leb n 16383) (le-leb (2 * length (cs ++ c ∷ []) + 5) end (omega arith)) ∙ parts.1
roomy_after (gathering t cs) at end n place (terms u) r moved = opened_roomy t cs place (terms u) end n (opening t cs)
roomy_after (gathering t cs) at end n place (unit u) r moved = opened_roomy t cs place (unit u) end n (opening t cs)
roomy_after (gathering t cs) at end n place (exit x) r moved = opened_roomy t cs place (exit x) end n (opening t cs)
roomy_after (gathering t cs) at end n place (years y) r moved = opened_roomy t cs place (years y) end n (opening t cs)
roomy_after (gathering t cs) at end n place step_back r moved = opened_roomy t cs place step_back end n (opening t cs)
roomy_after (gathering t cs) at end n place close r moved = opened_roomy t cs place close end n (opening t cs)
roomy_after (going s) at end n place item r moved = refl
roomy_after over at end n place item r moved = refl

-- the whole step

pub record_lines : (p q : Coded) (line : Option Line) (fs rest : List Found) (place : ℕ) (item : Item) → is_over (progress_of p) ≡ false → Ok (Some (place, item)) ≡ handed (due (progress_of p)) fs → rest ≡ later fs → taken_as (Ok (q, line)) ≡ as_lines (taken (progress_of p) place item) → (option_to_list line ++ progress_lines q) ++ lines_ahead q rest ≡ lines_ahead p fs
unfolding lines_ahead
record_lines p q line fs rest place item on e r t =
    ahead_record p fs rest place item (progress_of q) (option_to_list line ++ progress_lines q) on e r t

pub record_fault : (p : Coded) (f : Unopenable) (fs : List Found) (place : ℕ) (item : Item) → is_over (progress_of p) ≡ false → Ok (Some (place, item)) ≡ handed (due (progress_of p)) fs → taken_as (Err f) ≡ as_lines (taken (progress_of p) place item) → auction_fault_line f ∷ [] ≡ lines_ahead p fs
record_fault p f fs place item on e t =
    let none : lines_from (events over (later fs)) ≡ [] = ap lines_from (events_over (later fs)) in
    ap (λ z. auction_fault_line f ∷ z) (sym none) ∙ ahead_record p fs (later fs) place item over (auction_fault_line f ∷ []) on e refl t

pub record_sound : (p q : Coded) (line : Option Line) (at end n place : ℕ) (item : Item) → sound p at n ≡ true → taken_as (Ok (q, line)) ≡ as_lines (taken (progress_of p) place item) → unshut_in q ≡ true → end ≡ at + size (item_kind item) → sound q end n ≡ true
record_sound p q line at end n place item h t u moved =
    let same : progress_of q ≡ (taken (progress_of p) place item).1 = ap (λ z. z.0) t in
    sound_both q end n (subst (λ z. roomy z end n ≡ true) (sym same) (roomy_after (progress_of p) at end n place item (sound_parts p at n h).0 moved)) u

pub over_ahead : (fs : List Found) → lines_ahead coded.Over fs ≡ []
unfolding lines_ahead
over_ahead fs = ap lines_from (events_over fs)
