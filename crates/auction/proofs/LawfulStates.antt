-- What every call keeps of an auction, whatever it was before: its units and entries are lawful, and its numbers are in their
-- ranges. An auction just opened is lawful, and a lawful auction is sound.
use Rattle.std.proofs.Common.{◌≡◌, ℕ, ◌+◌, ◌-◌, ◌<◌, ◌≤◌, Bool, true, false, ◌&&◌, leb, List, [], ◌∷◌, ◌++◌, length, get_or, set, Some, None, Option, sym, refl, ap, ◌∙◌, subst, ⊎_elim, arith}
use Rattle.std.specs.List.{AllByRecursion}
use Rattle.std.proofs.ByRecursion.{All-push, All-set, All-weaker, All-get_or}
use Rattle.std.proofs.lemmas.List.{length-set, length_push, get_or-set_same, get_or-set_other}
use Rattle.std.proofs.lemmas.Bool.{false≢true, cases_eq, and_parts, leb-true}
use Rattle.auction.specs.declared.calls.Call.{Call}
use Rattle.auction.specs.declared.clocks.Stage.{Stage}
use Rattle.auction.specs.declared.clocks.Stage.TheVariants.{Enrolling, Open, Shut, Settled}
use Rattle.auction.specs.History.{is_none, unit_said}
use Rattle.auction.specs.State.{State, floor_of, in_of}
use Rattle.auction.specs.Steps.{step, opened}
use Rattle.auction.proofs.Agreement.{all_none}
use Rattle.auction.proofs.Moves.{Move, refusing, enrolling, beginning, exiting, serving, backing, shutting, settling, going_on, after, moved}
use Rattle.auction.proofs.RoundExits.{Above, AboveAt}
use Rattle.auction.proofs.Rows.{new_unit_is, new_years, none_is}
use Rattle.auction.proofs.Soundness.{Sound}
use Rattle.auction.proofs.Trails.{Quiet, quiet_after, enrolling_quiet, shut_quiet}
use Rattle.book.proofs.ModelLaws.{total_one_more, total_stays}
use Rattle.book.proofs.Rules.{new_capacity}
use Rattle.book.specs.Asked.{years_known}
use Rattle.book.specs.declared.class.Class.{Class}
use Rattle.book.specs.declared.entry.Entry.{Entry}
use Rattle.book.specs.declared.entry.EntryKind.TheVariants.{Exit, Years}
use Rattle.book.specs.declared.terms.Application.{Application}
use Rattle.book.specs.declared.unit.Standing.{Standing}
use Rattle.book.specs.declared.unit.Unit.{Unit as Row}
use Rattle.book.specs.Books.{Books, no_unit, class_of, most_years, new_unit, stood, out_at, for_years, total_enrolled, undone}
use Rattle.clearing.specs.Premise.{top_price}
use Rattle.curve.specs.Meaning.{Meaning, ceiling}
use Rattle.curve.specs.Words.{within}
use Rattle.ranking.specs.declared.exits.Exit.{Exit as Leaving}

-- in exactly if there is no exit price, and years from 1 to those enrolled
pub record LawfulStanding (most : ℕ) (st : Standing) : Type 0 where
  pub in_or_out : st.inside ≡ is_none st.exit
  pub some_years : 1 ≤ st.years
  pub no_more : st.years ≤ most

pub record LawfulUnit (floor : ℕ) (u : Row) : Type 0 where
  pub least : 1000 ≤ u.enrolled.capacity
  pub most : u.enrolled.capacity ≤ 5000000
  pub standing : LawfulStanding u.enrolled.years u.standing
  -- it left above the floor, if it left
  pub above : Above floor u

-- an entry is of a unit that exists, and that was in before it
pub record LawfulEntry (us : List Row) (i : ℕ) (former : Standing) : Type 0 where
  pub here : i < length us
  pub inside : former.inside ≡ true
  pub unpriced : former.exit ≡ None
  pub standing : LawfulStanding (get_or us i no_unit).enrolled.years former

abbrev pub LawfulIn : List Row → Entry → Type 0
LawfulIn us e = LawfulEntry us e.unit e.former

pub record LawfulBook (floor : ℕ) (b : Books) : Type 0 where
  pub count : length b.units ≤ 512
  pub units : AllByRecursion (LawfulUnit floor) b.units
  pub most : total_enrolled b.units ≤ ceiling
  pub standing : length b.entries ≤ 1024
  pub entries : AllByRecursion (LawfulIn b.units) b.entries

pub record Lawful (s : State) : Type 0 where
  pub top_most : s.top ≤ top_price
  pub spread_least : 1 ≤ s.spread
  pub quiet : Quiet s
  pub book : LawfulBook (floor_of s) s.book
  -- a settled auction clears
  pub cleared : s.stage ≡ Settled → within s.curve (floor_of s) (in_of s) ≡ true

-- a unit with another standing

enrolled_stays : (us : List Row) (i : ℕ) (st : Standing) → i < length us → (j : ℕ) → (get_or (set us i (stood (get_or us i no_unit) st)) j no_unit).enrolled ≡ (get_or us j no_unit).enrolled
enrolled_stays us i st here j =
    let u : Row = stood (get_or us i no_unit) st in
    ⊎_elim
    (λ (e : j ≡ i). ap (λ (k : ℕ). (get_or (set us i u) k no_unit).enrolled) e ∙ ap (λ (v : Row). v.enrolled) (get_or-set_same us i u no_unit here) ∙ ap (λ (k : ℕ). (get_or us k no_unit).enrolled) (sym e))
    (λ (ne : j ≡ i → ⊥). ap (λ (v : Row). v.enrolled) (get_or-set_other us i j u no_unit ne))
    (cases_eq j i)

entry_stays : (us : List Row) (i : ℕ) (st : Standing) → i < length us → (j : ℕ) (former : Standing) → LawfulEntry us j former → LawfulEntry (set us i (stood (get_or us i no_unit) st)) j former
entry_stays us i st here j former h =
    record {
      here = rw length-set h.here;
      inside = h.inside;
      unpriced = h.unpriced;
      standing = subst (λ e. LawfulStanding e.years former) (sym (enrolled_stays us i st here j)) h.standing;
    }

entries_stay : (us : List Row) (i : ℕ) (st : Standing) → i < length us → (e : Entry) → LawfulIn us e → LawfulIn (set us i (stood (get_or us i no_unit) st)) e
entries_stay us i st here e h = entry_stays us i st here e.unit e.former h

-- the book with another standing of a unit, and other entries that were lawful
stands_so : (floor : ℕ) (b : Books) (i : ℕ) (st : Standing) (es : List Entry) → LawfulBook floor b → i < length b.units → LawfulStanding (get_or b.units i no_unit).enrolled.years st → Above floor (stood (get_or b.units i no_unit) st) → length es ≤ 1024 → AllByRecursion (LawfulIn (set b.units i (stood (get_or b.units i no_unit) st))) es → LawfulBook floor (record { units = set b.units i (stood (get_or b.units i no_unit) st); entries = es })
stands_so floor b i st es h here lawful above few entries =
    let us : List Row = b.units in
    let u : Row = stood (get_or us i no_unit) st in
    let was : LawfulUnit floor (get_or us i no_unit) = All-get_or (LawfulUnit floor) us i no_unit here h.units in
    let count = h.count in
    let most = h.most in
    let same = total_stays us i st in
    record {
      count = rw length-set (omega arith);
      units = All-set (LawfulUnit floor) us i u (record { least = was.least; most = was.most; standing = lawful; above = above }) h.units;
      most = omega arith;
      standing = few;
      entries = entries;
    }

-- the former standing of a unit that is in
unpriced_if_in : (most : ℕ) (st : Standing) → LawfulStanding most st → st.inside ≡ true → st.exit ≡ None
unpriced_if_in most st h inside = none_is st.exit (sym h.in_or_out ∙ inside)

entered : (floor : ℕ) (b : Books) (i : ℕ) (st : Standing) (e : Entry) → LawfulBook floor b → i < length b.units → length b.entries < 1024 → LawfulStanding (get_or b.units i no_unit).enrolled.years st → Above floor (stood (get_or b.units i no_unit) st) → LawfulIn b.units e → LawfulBook floor (record { units = set b.units i (stood (get_or b.units i no_unit) st); entries = e ∷ b.entries })
entered floor b i st e h here few lawful above new =
    stands_so floor b i st (e ∷ b.entries) h here lawful above (omega arith)
    (entries_stay b.units i st here e new, All-weaker (LawfulIn b.units) _ (entries_stay b.units i st here) b.entries h.entries)

-- the latest entry taken back
restores : (floor : ℕ) (us : List Row) (i : ℕ) (former : Standing) (e : Entry) (es : List Entry) → LawfulBook floor (record { units = us; entries = e ∷ es }) → LawfulEntry us i former → LawfulBook floor (record { units = set us i (stood (get_or us i no_unit) former); entries = es })
restores floor us i former e es h entry =
    let few = h.standing in
    stands_so floor (record { units = us; entries = e ∷ es }) i former es h entry.here entry.standing (subst (λ (o : Option ℕ). Above floor (stood no_unit (record { years = 0; inside = false; exit = o }))) (sym entry.unpriced) tt) (omega arith)
    (All-weaker (LawfulIn us) _ (entries_stay us i former entry.here) es h.entries.1)

goes_back : (floor : ℕ) (us : List Row) (es : List Entry) → LawfulBook floor (record { units = us; entries = es }) → LawfulBook floor (undone us es)
goes_back floor us [] h = h
goes_back floor us (e ∷ es) h = restores floor us e.unit e.former e es h h.entries.0

-- a unit just enrolled
abbrev years_known_as : Application → Option Class → Bool
years_known_as a o = elim o [ None ↦ false | Some c ↦ leb 1 a.years && leb a.years (most_years c) ]

known_some : (a : Application) (o : Option Class) → years_known_as a o ≡ true → 1 ≤ a.years
known_some a None h = absurd (false≢true h)
known_some a (Some c) h = leb-true 1 a.years (and_parts (leb 1 a.years) _ h).0

new_lawful : (floor : ℕ) (a : Application) → 1000 ≤ a.capacity → a.capacity ≤ 5000000 → years_known a ≡ true → LawfulUnit floor (new_unit a)
new_lawful floor a least most known =
    let size = new_capacity a in
    let years = new_years a in
    let some = known_some a (class_of a.class) known in
    let said : LawfulUnit floor (unit_said a None None) = record { least = omega arith; most = omega arith; standing = record { in_or_out = refl; some_years = some; no_more = omega arith }; above = tt } in
    subst (LawfulUnit floor) (sym (new_unit_is a)) said

-- a lower floor
lower_floor : (floor low : ℕ) → low ≤ floor → (u : Row) → LawfulUnit floor u → LawfulUnit low u
lower_floor floor low le u h =
    record { least = h.least; most = h.most; standing = h.standing; above = lower_above u.standing.exit h.above }
  where
    lower_above : (o : Option ℕ) → AboveAt floor o → AboveAt low o
    lower_above None a = tt
    lower_above (Some price) a = omega arith

not_settled : (g other : Stage) {A : Type 0} → g ≡ other → (other ≡ Settled → ◌≡◌ {A = ℕ} 0 1) → g ≡ Settled → A
not_settled g other is differs e = let z : ◌≡◌ {A = ℕ} 0 1 = differs (sym is ∙ e) in absurd (omega arith)

pub lawful_after : (s : State) (move : Move s) → Lawful s → Lawful (after s move)
lawful_after s refusing h = h
lawful_after s (enrolling a e) h =
    let us : List Row = s.book.units in
    let more : length (us ++ new_unit a ∷ []) ≡ length us + 1 = length_push us (new_unit a) in
    let total = total_one_more us (new_unit a) in
    let size = new_capacity a in
    let few = e.few in
    let room = e.room in
    record {
      top_most = h.top_most;
      spread_least = h.spread_least;
      quiet = quiet_after s (enrolling a e) h.quiet;
      book = record {
        count = omega arith;
        units = All-push (LawfulUnit (floor_of s)) us (new_unit a) h.book.units (new_lawful (floor_of s) a e.least e.most e.known);
        most = omega arith;
        standing = h.book.standing;
        entries = all_none _ s.book.entries (enrolling_quiet s h.quiet e.stage_is);
      };
      cleared = not_settled _ Enrolling e.stage_is (λ d. cc);
    }
lawful_after s (beginning e) h = record { top_most = h.top_most; spread_least = h.spread_least; quiet = tt; book = h.book; cleared = not_settled _ Open refl (λ d. cc) }
lawful_after s (exiting i price e) h =
    let u : Row = get_or s.book.units i no_unit in
    let was : LawfulUnit (floor_of s) u = All-get_or (LawfulUnit (floor_of s)) s.book.units i no_unit e.here h.book.units in
    record {
      top_most = h.top_most;
      spread_least = h.spread_least;
      quiet = quiet_after s (exiting i price e) h.quiet;
      book = entered (floor_of s) s.book i (out_at u.standing price) (record { kind = Exit; unit = i; former = u.standing }) h.book e.here e.few (record { in_or_out = refl; some_years = was.standing.some_years; no_more = was.standing.no_more }) e.above (record { here = e.here; inside = e.inside; unpriced = unpriced_if_in u.enrolled.years u.standing was.standing e.inside; standing = was.standing });
      cleared = not_settled _ Open e.stage_is (λ d. cc);
    }
lawful_after s (serving i years e) h =
    let u : Row = get_or s.book.units i no_unit in
    let was : LawfulUnit (floor_of s) u = All-get_or (LawfulUnit (floor_of s)) s.book.units i no_unit e.here h.book.units in
    let most = was.standing.no_more in
    let fewer = e.fewer in
    record {
      top_most = h.top_most;
      spread_least = h.spread_least;
      quiet = quiet_after s (serving i years e) h.quiet;
      book = entered (floor_of s) s.book i (for_years u.standing years) (record { kind = Years; unit = i; former = u.standing }) h.book e.here e.few (record { in_or_out = was.standing.in_or_out; some_years = e.least; no_more = omega arith }) was.above (record { here = e.here; inside = e.inside; unpriced = unpriced_if_in u.enrolled.years u.standing was.standing e.inside; standing = was.standing });
      cleared = not_settled _ Open e.stage_is (λ d. cc);
    }
lawful_after s (backing e) h =
    record {
      top_most = h.top_most;
      spread_least = h.spread_least;
      quiet = quiet_after s (backing e) h.quiet;
      book = goes_back (floor_of s) s.book.units s.book.entries h.book;
      cleared = not_settled _ Open e.stage_is (λ d. cc);
    }
lawful_after s (shutting e) h =
    record {
      top_most = h.top_most;
      spread_least = h.spread_least;
      quiet = refl;
      book = record { count = h.book.count; units = h.book.units; most = h.book.most; standing = omega arith; entries = tt };
      cleared = not_settled _ Shut refl (λ d. cc);
    }
lawful_after s (settling e) h =
    record { top_most = h.top_most; spread_least = h.spread_least; quiet = tt; book = h.book; cleared = λ d. e.decided }
lawful_after s (going_on e) h =
    let top = h.top_most in
    let none = shut_quiet s h.quiet e in
    record {
      top_most = omega arith;
      spread_least = h.spread_least;
      quiet = tt;
      book = record {
        count = h.book.count;
        units = All-weaker (LawfulUnit (floor_of s)) _ (lower_floor (floor_of s) (floor_of s - s.spread) (omega arith)) s.book.units h.book.units;
        most = h.book.most;
        standing = h.book.standing;
        entries = all_none _ s.book.entries none;
      };
      cleared = not_settled _ Open refl (λ d. cc);
    }

-- every call keeps it
pub lawful_step : (s : State) (c : Call) → Lawful s → Lawful (step s c).0
lawful_step s c h = let m = moved s c in subst Lawful (sym m.state_is) (lawful_after s m.move h)

pub lawful_opened : (number top spread threshold : ℕ) (m : Meaning) (ahead : Leaving → Leaving → Bool) → top ≤ top_price → 1 ≤ spread → Lawful (opened number top spread threshold m ahead)
lawful_opened number top spread threshold m ahead most least =
    record {
      top_most = most;
      spread_least = least;
      quiet = refl;
      book = record { count = omega arith; units = tt; most = omega arith; standing = omega arith; entries = tt };
      cleared = not_settled _ Enrolling refl (λ d. cc);
    }

pub sound_if_lawful : (s : State) → Lawful s → Sound s
sound_if_lawful s h =
    let us : List Row = s.book.units in
    record {
      top_most = h.top_most;
      large = All-weaker (LawfulUnit (floor_of s)) (λ u. 1000 ≤ u.enrolled.capacity) (λ u l. l.least) us h.book.units;
      most = h.book.most;
      in_or_out = All-weaker (LawfulUnit (floor_of s)) (λ u. u.standing.inside ≡ is_none u.standing.exit) (λ u l. l.standing.in_or_out) us h.book.units;
      above_floor = All-weaker (LawfulUnit (floor_of s)) (Above (floor_of s)) (λ u l. l.above) us h.book.units;
    }
