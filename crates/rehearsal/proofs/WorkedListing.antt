-- The listing of the worked auction's file.
use Rattle.std.proofs.Common.{◌≡◌, ℕ, ◌*◌, ◌≤◌, Bool, true, false, cond, List, [], ◌∷◌, ◌++◌, ℤ, pos, ◌*ℤ◌, Some, None, Ok, Err, codes, Option, Result, sym, refl, ap, ◌∙◌, subst, arith, lit≤}
use Rattle.std.proofs.lemmas.Bool.Decides.{nat_tests}
use Rattle.auction.specs.declared.clocks.Stage.TheVariants.{Settled}
use Rattle.auction.specs.State.{State, priced}
use Rattle.auction.specs.Steps.{open_questions}
use Rattle.bidfile.specs.declared.records.Due.TheVariants as records
use Rattle.bidfile.specs.declared.records.TermsRecord.{TermsRecord}
use Rattle.bidfile.specs.Found.{Found, found, handed, length_questions}
use Rattle.bidfile.specs.Items.{Item, terms}
use Rattle.bidfile.specs.Layout.{in_places}
use Rattle.book.specs.declared.class.Class.TheVariants.{Existing, Refurbishing, NewBuild, DemandSide}
use Rattle.book.specs.declared.class.Side.TheVariants.{Taker, Maker}
use Rattle.book.specs.declared.entry.Entry.{Entry}
use Rattle.book.specs.declared.entry.EntryKind.TheVariants.{Exit, Years}
use Rattle.book.specs.declared.unit.Enrolment.{Enrolment}
use Rattle.book.specs.declared.unit.Unit.{Unit as Row}
use Rattle.clearing.specs.declared.ground.Ground.TheVariants.{NextTaken, NextLeft}
use Rattle.clearing.specs.declared.place.Place.{Place}
use Rattle.clearing.specs.declared.settlement.Settlement.{Settlement}
use Rattle.clearing.specs.Finding.{outcome_of, stopped}
use Rattle.clearing.specs.Margins.{weighed, sign_of, takes}
use Rattle.clearing.specs.Places.{place_at}
use Rattle.clearing.proofs.Signs.{told_weighed}
use Rattle.curve.specs.Corners.{corner_questions}
use Rattle.curve.specs.declared.corner.Corner.{Corner}
use Rattle.curve.specs.declared.side.Shape.TheVariants.{Lines}
use Rattle.curve.specs.declared.sign.Sign.TheVariants.{Above}
use Rattle.curve.specs.Meaning.{Meaning, area_between}
use Rattle.curve.specs.Outline.{sides, outline}
use Rattle.curve.specs.Questions.{first_no}
use Rattle.curve.specs.Rules.{AreaUnder}
use Rattle.curve.specs.Weighing.{sign_number, compared}
use Rattle.curve.specs.Words.{within, exactly}
use Rattle.curve.specs.OutlineLaws.{curve_area}
use Rattle.listing.specs.declared.fault.Layer.{Layer}
use Rattle.listing.specs.declared.fault.Layer.TheVariants.{File, Curve, Auction}
use Rattle.listing.specs.declared.line.Line.{Line}
use Rattle.listing.specs.declared.line.Line.TheVariants.{Round, Refused, Cleared, Award, Fault}
use Rattle.ranking.specs.Ahead.{rule_ahead}
use Rattle.ranking.specs.declared.exits.Exit.{Exit as Leaving}
use Rattle.rehearsal.specs.Events.{Event, following, events}
use Rattle.rehearsal.specs.Listing.{lines_from, listing}
use Rattle.rehearsal.specs.Market.{corners_in}
use Rattle.rehearsal.specs.Progress.{fresh, gathering, opened_with, opening}
use Rattle.rehearsal.proofs.LinkedEvents.{From}
use Rattle.rehearsal.proofs.LinkedLines.{settled_lines}
use Rattle.rehearsal.proofs.OpenedRuns.{Opens, gathering_opens}
use Rattle.rehearsal.proofs.SettledRuns.{lines_by, same_lines, of_curve, lines_kept, settlement_lines, settled_by}
use Rattle.rehearsal.proofs.WorkedFile.{worked_file, worked_terms, worked_records, worked_found}
use Rattle.selection.specs.Selected.{shape, selected_curve}

-- A file whose questions are answered "yes", step by step

listing_read : (bytes : List ℕ) → first_no (length_questions bytes) ≡ None → listing bytes ≡ lines_from (events fresh (found bytes 0))
listing_read bytes e = ap (λ (o : Option ℕ). elim o [ Some n ↦ Fault File n 0 ∷ [] | None ↦ lines_from (events fresh (found bytes 0)) ]) e

terms_read : (f : Found) (fs : List Found) (at : ℕ) (t : TermsRecord) → handed records.Terms (f ∷ fs) ≡ Ok (Some (at, terms t)) → events fresh (f ∷ fs) ≡ events (gathering t []) fs
terms_read f fs at t e = ap (λ (r : Result (Option (ℕ × Item)) (ℕ × ℕ)). following fresh r (λ q. events q fs)) e

opening_passed : (t : TermsRecord) (corners : List Corner) → first_no (corner_questions (shape t.curve) corners) ≡ None → first_no (open_questions (selected_curve t.curve corners) t.«cap» t.spread t.threshold) ≡ None → opening t corners ≡ Ok (opened_with t corners)
opening_passed t corners curve-yes open-yes =
    let asked : Option ℕ = first_no (open_questions (selected_curve t.curve corners) t.«cap» t.spread t.threshold) in
    ap (λ (o : Option ℕ). elim o [ Some n ↦ Err (Curve, n) | None ↦ elim asked [ Some n ↦ Err (Auction, n) | None ↦ Ok (opened_with t corners) ] ]) curve-yes
    ∙ ap (λ (o : Option ℕ). elim o [ Some n ↦ Err (Auction, n) | None ↦ Ok (opened_with t corners) ]) open-yes

opened_from : (fs : List Found) (t : TermsRecord) (corners : List Corner) → corners_in fs ≡ corners → opening t corners ≡ Ok (opened_with t corners) → From (opened_with t corners) (events (gathering t []) fs)
opened_from fs t corners is opens =
    let es : List Event = events (gathering t []) fs in
    let here : Opens (opening t corners) es = subst (λ (cs : List Corner). Opens (opening t cs) es) is (gathering_opens fs t []) in
    subst (λ (r : Result State (Layer × ℕ)). Opens r es) opens here

-- the lines are those by what the settled auction prints, with the curve and the tie order that were opened
lines_opened : (fs : List Found) (t : TermsRecord) (corners : List Corner) → corners_in fs ≡ corners → opening t corners ≡ Ok (opened_with t corners) → lines_from (events (gathering t []) fs) ≡ lines_by (λ s. settled_lines (of_curve (opened_with t corners).curve (opened_with t corners).ahead s)) (events (gathering t []) fs)
lines_opened fs t corners is opens =
    let es : List Event = events (gathering t []) fs in
    let from : From (opened_with t corners) es = opened_from fs t corners is opens in
    same_lines es ∙ lines_kept settled_lines (opened_with t corners).curve (opened_with t corners).ahead es (opened_with t corners) from.leaves from.linked (refl, refl)

-- The worked auction

abbrev worked_corners : List Corner
worked_corners =
    record { quantity = 10000; price = 7000 } ∷ record { quantity = 20000; price = 4000 } ∷ record { quantity = 30000; price = 0 } ∷ []

abbrev worked_curve : Meaning
worked_curve = outline (sides Lines worked_corners)

abbrev inside : Enrolment → ℕ → Row
inside e served = record { enrolled = e; standing = record { years = served; inside = true; exit = None } }

abbrev outside : Enrolment → ℕ → ℕ → Row
outside e served price = record { enrolled = e; standing = record { years = served; inside = false; exit = Some price } }

abbrev holt : Enrolment
holt = record { capacity = 9000; class = Existing; side = Maker; years = 1; random = 4; name = codes "HOLT-1  " }

abbrev beck : Enrolment
beck = record { capacity = 10000; class = Existing; side = Taker; years = 1; random = 9; name = codes "BECK-2  " }

abbrev combe : Enrolment
combe = record { capacity = 1400; class = NewBuild; side = Maker; years = 15; random = 2; name = codes "COMBE-3 " }

abbrev dale : Enrolment
dale = record { capacity = 1000; class = DemandSide; side = Maker; years = 1; random = 7; name = codes "DALE-4  " }

abbrev edge : Enrolment
edge = record { capacity = 2000; class = Refurbishing; side = Maker; years = 3; random = 5; name = codes "EDGE-5  " }

abbrev worked_units : List Row
worked_units = inside holt 1 ∷ inside beck 1 ∷ outside combe 10 3600 ∷ outside dale 1 3600 ∷ outside edge 3 5000 ∷ []

abbrev worked_entries : List Entry
worked_entries =
    record { kind = Exit; unit = 2; former = record { years = 10; inside = true; exit = None } }
    ∷ record { kind = Exit; unit = 3; former = record { years = 1; inside = true; exit = None } }
    ∷ record { kind = Years; unit = 2; former = record { years = 15; inside = true; exit = None } }
    ∷ []

-- when it has settled, over a curve and a tie order
abbrev worked_end : Meaning → (Leaving → Leaving → Bool) → State
worked_end m ahead =
    record {
      number = 1;
      stage = Settled;
      round = 2;
      top = 4000;
      spread = 3000;
      threshold = 2500;
      book = record { units = worked_units; entries = worked_entries };
      curve = m;
      ahead = ahead;
    }

abbrev terms_found : Found
terms_found = record { place = 0; kind = 1; whole = true; item = Some (terms worked_terms) }

abbrev worked_rest : List Found
worked_rest = in_places 5 worked_records

worked_run : (prints : State → List Line) (m : Meaning) (ahead : Leaving → Leaving → Bool) → lines_by (λ s. prints (of_curve m ahead s)) (events (gathering worked_terms []) worked_rest) ≡ Round 1 7000 4000 21400 20000 ∷ Refused 18 49 ∷ Round 2 4000 1000 19000 27500 ∷ (prints (worked_end m ahead) ++ [])
unfolding within
worked_run prints m ahead = refl

-- its settlement

abbrev combe_leaves : Leaving
combe_leaves = record { unit = 2; price = 3600; capacity = 1400; years = 10; random = 2; name = codes "COMBE-3 " }

abbrev dale_leaves : Leaving
dale_leaves = record { unit = 3; price = 3600; capacity = 1000; years = 1; random = 7; name = codes "DALE-4  " }

-- the places of round 2
at : ℕ → Place
at i = place_at 1000 19000 (combe_leaves ∷ dale_leaves ∷ []) i

above : (m : Meaning) → 1 ≤ m.parts → AreaUnder m (sides Lines worked_corners) → sign_number Above ≡ compared (pos (area_between m 20400 21400)) (pos 3600000 *ℤ pos m.parts)
above m some under =
    let e = under.along.1.1.0.mean 20400 21400 (lit≤ tt) (lit≤ tt) (lit≤ tt) in
    let worth : area_between m 20400 21400 ≡ 3640000 * m.parts = omega arith in
    grind (arith, nat_tests)

above_zero : sign_of (weighed worked_curve (at 1) (at 2)) ≡ pos 1
unfolding at
above_zero =
    sym (told_weighed worked_curve (at 1) (at 2) Above (pos 3600000) refl (above worked_curve (lit≤ tt) (curve_area Lines worked_corners refl)))

-- the margin, whichever sign is found
at_sign : ℤ → Option Settlement
at_sign z = Some (cond (takes (at 1) (at 2) z) (stopped NextTaken (at 2)) (stopped NextLeft (at 1)))

abbrev worked_settlement : Settlement
worked_settlement = record { price = 3600; ground = NextTaken; stop = 2 }

taken : outcome_of worked_curve 1000 19000 (combe_leaves ∷ dale_leaves ∷ []) ≡ Some worked_settlement
unfolding outcome_of within exactly at at_sign
taken = ap at_sign above_zero

worked_outcome : (m : Meaning) → priced (worked_end m rule_ahead) ≡ outcome_of m 1000 19000 (combe_leaves ∷ dale_leaves ∷ [])
worked_outcome m = refl

-- what it prints then
abbrev last_lines : List Line
last_lines =
    Cleared 3600 NextTaken
    ∷ Award (codes "BECK-2  ") 10000 1
    ∷ Award (codes "COMBE-3 ") 1400 10
    ∷ Award (codes "DALE-4  ") 1000 1
    ∷ Award (codes "HOLT-1  ") 9000 1
    ∷ []

worked_awards : (m : Meaning) → settlement_lines (worked_end m rule_ahead) worked_settlement ≡ last_lines
worked_awards m = refl

worked_settled : settled_lines (worked_end worked_curve rule_ahead) ≡ last_lines
worked_settled =
    settled_by (worked_end worked_curve rule_ahead) worked_settlement (worked_outcome worked_curve ∙ taken) ∙ worked_awards worked_curve

-- its eight lines
abbrev pub worked_lines : List Line
worked_lines = Round 1 7000 4000 21400 20000 ∷ Refused 18 49 ∷ Round 2 4000 1000 19000 27500 ∷ last_lines

worked_first : found worked_file 0 ≡ terms_found ∷ worked_rest
worked_first = worked_found

worked_opens : opening worked_terms worked_corners ≡ Ok (opened_with worked_terms worked_corners)
worked_opens = opening_passed worked_terms worked_corners refl refl

pub worked_listing : listing worked_file ≡ worked_lines
worked_listing =
    listing_read worked_file refl
    ∙ ap (λ (fs : List Found). lines_from (events fresh fs)) worked_first
    ∙ ap lines_from (terms_read terms_found worked_rest 0 worked_terms refl)
    ∙ lines_opened worked_rest worked_terms worked_corners refl worked_opens
    ∙ worked_run settled_lines worked_curve rule_ahead
    ∙ ap (λ (lines : List Line). Round 1 7000 4000 21400 20000 ∷ Refused 18 49 ∷ Round 2 4000 1000 19000 27500 ∷ (lines ++ [])) worked_settled
