-- Laws of the rule of a book: what it says of one unit, and that every operation keeps it. Assumes nothing.
use Rattle.std.proofs.Common.{◌≡◌, ℕ, zero, suc, ◌+◌, ◌<◌, ◌≤◌, Bool, true, false, cond, not, ◌&&◌, ◌||◌, ltb, leb, List, [], ◌∷◌, ◌++◌, reverse, length, get_or, Some, None, Option, sym, refl, ap, ◌∙◌, arith}
use Rattle.std.proofs.lemmas.List.{length-set, length_push, get_or_append_left, reverse-append}
use Rattle.std.proofs.lemmas.Bool.{and_parts, and_from, ltb-true, leb-true, lt-ltb, le-leb, not-true, or_from, or_parts, not_from_false}
use Rattle.std.proofs.lemmas.Bool.Decides.{nat_tests}
use Rattle.book.specs.declared.class.Class.{Class}
use Rattle.book.specs.declared.class.Class.TheVariants.{Existing}
use Rattle.book.specs.declared.entry.Entry.{Entry}
use Rattle.book.specs.declared.entry.EntryKind.{EntryKind}
use Rattle.book.specs.declared.terms.Application.{Application}
use Rattle.book.specs.declared.terms.Terms.{Terms}
use Rattle.book.specs.declared.unit.Enrolment.{Enrolment}
use Rattle.book.specs.declared.unit.Standing.{Standing}
use Rattle.book.specs.declared.unit.Unit.{Unit as Row}
use Rattle.book.specs.Asked.{named, is_a_maker, years_known, enrol_questions, exit_questions, years_questions}
use Rattle.book.specs.declared.entry.EntryKind.TheVariants.{Exit, Years}
use Rattle.book.specs.Books.{Books, no_books, no_unit, unit_at, stood, out_at, for_years, class_of, most_years, enrolled_as, new_unit, with_unit, with_entry, with_exit, with_years, undone, stepped_back, closed_book, capacity_inside, total_enrolled}
use Rattle.book.specs.Lawful.{out_if_priced, lawful_standing, lawful_unit, lawful_units, distinct_names, stood_lawfully, lawful_entry, lawful_entries, lawful, can_leave}
use Rattle.book.specs.Names.{same_name, well_formed}
use Rattle.book.proofs.ModelLaws.{with_standing, enrolled_stays, total_stays, total_one_more, capacity_after_exit}
use Rattle.book.proofs.NameLaws.{same_name_either_way}
use Rattle.curve.specs.Meaning.{ceiling}
use Rattle.curve.specs.Questions.{first_no}

-- the rule, part by part
pub record Keeps (b : Books) : Type 0 where
  pub few_units : length b.units ≤ 512
  pub few_entries : length b.entries ≤ 1024
  pub total : total_enrolled b.units ≤ ceiling
  pub units : lawful_units b.units ≡ true
  pub names : distinct_names b.units ≡ true
  pub entries : lawful_entries b.units b.entries ≡ true

pub lawful_keeps : (b : Books) → lawful b ≡ true → Keeps b
unfolding lawful
lawful_keeps b h =
    let p = and_parts _ _ h in
    let q = and_parts _ _ p.1 in
    let r = and_parts _ _ q.1 in
    let s = and_parts _ _ r.1 in
    let t = and_parts _ _ s.1 in
    record {
      few_units = leb-true _ _ p.0;
      few_entries = leb-true _ _ q.0;
      total = leb-true _ _ r.0;
      units = s.0;
      names = t.0;
      entries = t.1;
    }

pub keeps_lawful : (b : Books) → Keeps b → lawful b ≡ true
unfolding lawful
keeps_lawful b k =
    and_from _ _ (le-leb _ _ k.few_units)
    (and_from _ _ (le-leb _ _ k.few_entries)
    (and_from _ _ (le-leb _ _ k.total) (and_from _ _ k.units (and_from _ _ k.names k.entries))))

-- how one unit stands

pub record Stands (years : ℕ) (s : Standing) : Type 0 where
  pub priced : out_if_priced s ≡ true
  pub some : 1 ≤ s.years
  pub most : s.years ≤ years

pub lawful_stands : (years : ℕ) (s : Standing) → lawful_standing years s ≡ true → Stands years s
unfolding lawful_standing
lawful_stands years s h =
    let p = and_parts _ _ h in
    let q = and_parts _ _ p.1 in
    record { priced = p.0; some = leb-true _ _ q.0; most = leb-true _ _ q.1 }

pub stands_lawful : (years : ℕ) (s : Standing) → Stands years s → lawful_standing years s ≡ true
unfolding lawful_standing
stands_lawful years s h = and_from _ _ h.priced (and_from _ _ (le-leb _ _ h.some) (le-leb _ _ h.most))

pub in_has_no_price : (s : Standing) → out_if_priced s ≡ true → s.inside ≡ true → s.exit ≡ None
in_has_no_price s = cases s.exit s.inside
  where
    cases : (o : Option ℕ) (inside : Bool) → elim o [ None ↦ inside | Some price ↦ not inside ] ≡ true → inside ≡ true → o ≡ None
    cases None inside h e = refl
    cases (Some price) inside h e = absurd (let z : ◌≡◌ {A = Bool} true false = sym e ∙ not-true inside h in grind (arith, nat_tests))

pub no_price_is_in : (s : Standing) → out_if_priced s ≡ true → s.exit ≡ None → s.inside ≡ true
no_price_is_in s = cases s.exit s.inside
  where
    cases : (o : Option ℕ) (inside : Bool) → elim o [ None ↦ inside | Some price ↦ not inside ] ≡ true → o ≡ None → inside ≡ true
    cases None inside h e = h
    cases (Some price) inside h e = absurd (let z : ◌≡◌ {A = ℕ} 0 1 = cc in omega arith)

pub unit_stands : (u : Row) → lawful_unit u ≡ true → Stands u.enrolled.years u.standing
unfolding lawful_unit
unit_stands u h = lawful_stands _ _ (and_parts _ _ h).0

pub unit_capacity : (u : Row) → lawful_unit u ≡ true → (1000 ≤ u.enrolled.capacity) × (u.enrolled.capacity ≤ 5000000)
unfolding lawful_unit
unit_capacity u h = let p = and_parts _ _ (and_parts _ _ h).1 in (leb-true _ _ p.0, leb-true _ _ p.1)

unit_stood : (u : Row) (s : Standing) → lawful_unit u ≡ true → lawful_standing u.enrolled.years s ≡ true → lawful_unit (stood u s) ≡ true
unfolding lawful_unit
unit_stood u s h stands = and_from _ _ stands (and_parts _ _ h).1

-- of all units

pub first_lawful : (u : Row) (us : List Row) → lawful_units (u ∷ us) ≡ true → lawful_unit u ≡ true
unfolding lawful_units
first_lawful u us h = (and_parts _ _ h).0

pub rest_lawful : (u : Row) (us : List Row) → lawful_units (u ∷ us) ≡ true → lawful_units us ≡ true
unfolding lawful_units
rest_lawful u us h = (and_parts _ _ h).1

pub lawful_at : (us : List Row) (i : ℕ) → lawful_units us ≡ true → i < length us → lawful_unit (get_or us i no_unit) ≡ true
unfolding lawful_units
lawful_at [] i h lt = absurd (omega arith)
lawful_at (u ∷ us) zero h lt = (and_parts _ _ h).0
lawful_at (u ∷ us) (suc i) h lt = lawful_at us i (and_parts _ _ h).1 (omega arith)

lawful_stood : (us : List Row) (i : ℕ) (s : Standing) → lawful_units us ≡ true → lawful_standing (get_or us i no_unit).enrolled.years s ≡ true → lawful_units (with_standing us i s) ≡ true
unfolding lawful_units
lawful_stood [] i s h stands = refl
lawful_stood (u ∷ us) zero s h stands = let p = and_parts _ _ h in and_from _ _ (unit_stood u s p.0 stands) p.1
lawful_stood (u ∷ us) (suc i) s h stands = let p = and_parts _ _ h in and_from _ _ p.0 (lawful_stood us i s p.1 stands)

lawful_one_more : (us : List Row) (u : Row) → lawful_units us ≡ true → lawful_unit u ≡ true → lawful_units (us ++ (u ∷ [])) ≡ true
unfolding lawful_units
lawful_one_more [] u h one = and_from _ _ one refl
lawful_one_more (v ∷ us) u h one = let p = and_parts _ _ h in and_from _ _ p.0 (lawful_one_more us u p.1 one)

-- of names

named_stood : (us : List Row) (i : ℕ) (s : Standing) (name : List ℕ) → named (with_standing us i s) name ≡ named us name
named_stood [] i s name = refl
named_stood (u ∷ us) zero s name = refl
named_stood (u ∷ us) (suc i) s name = ap (λ (b : Bool). same_name u.enrolled.name name || b) (named_stood us i s name)

distinct_stood : (us : List Row) (i : ℕ) (s : Standing) → distinct_names (with_standing us i s) ≡ distinct_names us
unfolding distinct_names
distinct_stood [] i s = refl
distinct_stood (u ∷ us) zero s = refl
distinct_stood (u ∷ us) (suc i) s =
    ap (λ (b : Bool). not b && distinct_names (with_standing us i s)) (named_stood us i s u.enrolled.name)
    ∙ ap (λ (b : Bool). not (named us u.enrolled.name) && b) (distinct_stood us i s)

unnamed_one_more : (us : List Row) (u : Row) (name : List ℕ) → named us name ≡ false → same_name u.enrolled.name name ≡ false → named (us ++ (u ∷ [])) name ≡ false
unnamed_one_more [] u name h other = or_from _ _ other refl
unnamed_one_more (v ∷ us) u name h other = let p = or_parts _ _ h in or_from _ _ p.0 (unnamed_one_more us u name p.1 other)

distinct_one_more : (us : List Row) (u : Row) → distinct_names us ≡ true → named us u.enrolled.name ≡ false → distinct_names (us ++ (u ∷ [])) ≡ true
unfolding distinct_names
distinct_one_more [] u h new = refl
distinct_one_more (v ∷ us) u h new =
    let p = and_parts _ _ h in
    let q = or_parts _ _ new in
    let other = same_name_either_way u.enrolled.name v.enrolled.name ∙ q.0 in
    and_from _ _
    (not_from_false _ (unnamed_one_more us u v.enrolled.name (not-true _ p.0) other))
    (distinct_one_more us u p.1 q.1)

-- of entries

stood_lawfully_stood : (us : List Row) (i j : ℕ) (s former : Standing) → stood_lawfully us j former ≡ true → stood_lawfully (with_standing us i s) j former ≡ true
stood_lawfully_stood us i j s former h =
    let p = and_parts _ _ h in
    and_from _ _
    (ap (λ (n : ℕ). ltb j n) (length-set us i _) ∙ p.0)
    (ap (λ (e : Enrolment). lawful_standing e.years former) (enrolled_stays us i j s) ∙ p.1)

entry_stood : (us : List Row) (i : ℕ) (s : Standing) (e : Entry) → lawful_entry us e ≡ true → lawful_entry (with_standing us i s) e ≡ true
unfolding lawful_entry
entry_stood us i s e h = stood_lawfully_stood us i e.unit s e.former h

entries_stood : (us : List Row) (i : ℕ) (s : Standing) (es : List Entry) → lawful_entries us es ≡ true → lawful_entries (with_standing us i s) es ≡ true
unfolding lawful_entries
entries_stood us i s [] h = refl
entries_stood us i s (e ∷ es) h = let p = and_parts _ _ h in and_from _ _ (entry_stood us i s e p.0) (entries_stood us i s es p.1)

stood_lawfully_one_more : (us : List Row) (u : Row) (j : ℕ) (former : Standing) → stood_lawfully us j former ≡ true → stood_lawfully (us ++ (u ∷ [])) j former ≡ true
stood_lawfully_one_more us u j former h =
    let p = and_parts _ _ h in
    let lt : j < length us = ltb-true _ _ p.0 in
    let more = length_push us u in
    and_from _ _
    (lt-ltb _ _ (omega arith))
    (ap (λ (v : Row). lawful_standing v.enrolled.years former) (get_or_append_left us (u ∷ []) no_unit j lt) ∙ p.1)

entry_one_more : (us : List Row) (u : Row) (e : Entry) → lawful_entry us e ≡ true → lawful_entry (us ++ (u ∷ [])) e ≡ true
unfolding lawful_entry
entry_one_more us u e h = stood_lawfully_one_more us u e.unit e.former h

entries_one_more : (us : List Row) (u : Row) (es : List Entry) → lawful_entries us es ≡ true → lawful_entries (us ++ (u ∷ [])) es ≡ true
unfolding lawful_entries
entries_one_more us u [] h = refl
entries_one_more us u (e ∷ es) h = let p = and_parts _ _ h in and_from _ _ (entry_one_more us u e p.0) (entries_one_more us u es p.1)

pub entry_stood_lawfully : (us : List Row) (e : Entry) → lawful_entry us e ≡ true → (e.unit < length us) × (lawful_standing (get_or us e.unit no_unit).enrolled.years e.former ≡ true)
unfolding lawful_entry
entry_stood_lawfully us e h = let p = and_parts _ _ h in (ltb-true _ _ p.0, p.1)

pub latest_lawful : (us : List Row) (e : Entry) (es : List Entry) → lawful_entries us (e ∷ es) ≡ true → (lawful_entry us e ≡ true) × (lawful_entries us es ≡ true)
unfolding lawful_entries
latest_lawful us e es h = and_parts _ _ h

entries_more : (us : List Row) (e : Entry) (es : List Entry) → lawful_entry us e ≡ true → lawful_entries us es ≡ true → lawful_entries us (e ∷ es) ≡ true
unfolding lawful_entries
entries_more us e es one rest = and_from _ _ one rest

-- the latest entry, taken off the entries that stand, the oldest first, is of a unit that there is
pub latest_unit : (us : List Row) (es fs : List Entry) (e : Entry) → lawful (record { units = us; entries = reverse fs }) ≡ true → fs ≡ es ++ (e ∷ []) → e.unit < length us
latest_unit us es fs e h popped =
    let was : lawful (record { units = us; entries = e ∷ reverse es }) ≡ true
    = ap (λ (ys : List Entry). lawful (record { units = us; entries = ys })) (sym (ap reverse popped ∙ reverse-append es (e ∷ []))) ∙ h in
    (entry_stood_lawfully us e (latest_lawful us e (reverse es) (lawful_keeps _ was).entries).0).0

-- the answers of the questions, one by one

yes_first : (n : ℕ) (b : Bool) (o : Option ℕ) → cond b o (Some n) ≡ None → (b ≡ true) × (o ≡ None)
yes_first n true o h = (refl, h)
yes_first n false o h = absurd (let z : ◌≡◌ {A = ℕ} 0 1 = cc in omega arith)

pub record CanEnrol (b : Books) (a : Application) : Type 0 where
  pub room : length b.units < 512
  pub least : 1000 ≤ a.capacity
  pub most : a.capacity ≤ 5000000
  pub total : total_enrolled b.units + a.capacity ≤ ceiling
  pub years : years_known a ≡ true
  pub formed : well_formed a.name ≡ true
  pub new : named b.units a.name ≡ false

pub enrol_allowed : (b : Books) (a : Application) → first_no (enrol_questions b a) ≡ None → CanEnrol b a
enrol_allowed b a h =
    let p = yes_first _ _ _ h in
    let q = yes_first _ _ _ p.1 in
    let r = yes_first _ _ _ q.1 in
    let s = yes_first _ _ _ r.1 in
    let t = yes_first _ _ _ s.1 in
    let kw = and_parts _ _ q.0 in
    let name = and_parts _ _ t.0 in
    record {
      room = ltb-true _ _ p.0;
      least = leb-true _ _ kw.0;
      most = leb-true _ _ kw.1;
      total = leb-true _ _ r.0;
      years = s.0;
      formed = name.0;
      new = not-true _ name.1;
    }

pub record MayLeave (b : Books) (i : ℕ) : Type 0 where
  pub unit : i < length b.units
  pub inside : (unit_at b i).standing.inside ≡ true
  pub room : length b.entries < 1024

pub leave_allowed : (b : Books) (i : ℕ) → can_leave b i ≡ true → MayLeave b i
leave_allowed b i h =
    let p = and_parts _ _ h in
    let q = and_parts _ _ p.1 in
    record { unit = ltb-true _ _ p.0; inside = q.0; room = ltb-true _ _ q.1 }

pub record CanExit (t : Terms) (b : Books) (i price : ℕ) : Type 0 where
  pub unit : i < length b.units
  pub inside : (unit_at b i).standing.inside ≡ true
  pub above : t.floor < price
  pub most : price ≤ t.«cap»
  pub threshold : (is_a_maker (unit_at b i).enrolled.side || leb price t.threshold) ≡ true
  pub room : length b.entries < 1024

pub exit_allowed : (t : Terms) (b : Books) (i price : ℕ) → first_no (exit_questions t b i price) ≡ None → CanExit t b i price
exit_allowed t b i price h =
    let p = yes_first _ _ _ h in
    let q = yes_first _ _ _ p.1 in
    let r = yes_first _ _ _ q.1 in
    let s = yes_first _ _ _ r.1 in
    let e = yes_first _ _ _ s.1 in
    let both = and_parts _ _ r.0 in
    record {
      unit = ltb-true _ _ p.0;
      inside = q.0;
      above = ltb-true _ _ both.0;
      most = leb-true _ _ both.1;
      threshold = s.0;
      room = ltb-true _ _ e.0;
    }

-- a unit whose exit is not refused can leave
pub exit_can_leave : (t : Terms) (b : Books) (i price : ℕ) → first_no (exit_questions t b i price) ≡ None → can_leave b i ≡ true
exit_can_leave t b i price h =
    let can = exit_allowed t b i price h in
    and_from _ _ (lt-ltb _ _ can.unit) (and_from _ _ can.inside (lt-ltb _ _ can.room))

pub record CanServe (b : Books) (i years : ℕ) : Type 0 where
  pub unit : i < length b.units
  pub inside : (unit_at b i).standing.inside ≡ true
  pub some : 1 ≤ years
  pub fewer : years < (unit_at b i).standing.years
  pub room : length b.entries < 1024

pub years_allowed : (b : Books) (i years : ℕ) → first_no (years_questions b i years) ≡ None → CanServe b i years
years_allowed b i years h =
    let p = yes_first _ _ _ h in
    let q = yes_first _ _ _ p.1 in
    let r = yes_first _ _ _ q.1 in
    let s = yes_first _ _ _ r.1 in
    let both = and_parts _ _ r.0 in
    record {
      unit = ltb-true _ _ p.0;
      inside = q.0;
      some = leb-true _ _ both.0;
      fewer = ltb-true _ _ both.1;
      room = ltb-true _ _ s.0;
    }

-- each operation keeps the rule

-- a change of one unit's standing
keeps_stood : (b : Books) (i : ℕ) (s : Standing) → Keeps b → lawful_standing (unit_at b i).enrolled.years s ≡ true → Keeps (record { units = with_standing b.units i s; entries = b.entries })
keeps_stood b i s k stands =
    let long = length-set b.units i (stood (unit_at b i) s) in
    let sum = total_stays b.units i s in
    let few = k.few_units in
    let whole = k.total in
    record {
      few_units = omega arith;
      few_entries = k.few_entries;
      total = omega arith;
      units = lawful_stood b.units i s k.units stands;
      names = distinct_stood b.units i s ∙ k.names;
      entries = entries_stood b.units i s b.entries k.entries;
    }

keeps_entry : (b : Books) (e : Entry) → Keeps b → lawful_entry b.units e ≡ true → length b.entries < 1024 → Keeps (record { units = b.units; entries = e ∷ b.entries })
keeps_entry b e k one room =
    record {
      few_units = k.few_units;
      few_entries = omega arith;
      total = k.total;
      units = k.units;
      names = k.names;
      entries = entries_more b.units e b.entries one k.entries;
    }

stands_at : (b : Books) (i : ℕ) → Keeps b → i < length b.units → lawful_standing (unit_at b i).enrolled.years (unit_at b i).standing ≡ true
stands_at b i k lt = stands_lawful _ _ (unit_stands (unit_at b i) (lawful_at b.units i k.units lt))

-- the unit i stands otherwise, and that is an entry
pub lawful_with_entry : (b : Books) (i : ℕ) (s : Standing) (kind : EntryKind) → lawful b ≡ true → stood_lawfully b.units i s ≡ true → length b.entries < 1024 → lawful (with_entry b i s kind) ≡ true
unfolding lawful_entry
lawful_with_entry b i s kind h allowed room =
    let k = lawful_keeps b h in
    let p = and_parts _ _ allowed in
    let former : Entry = record { kind = kind; unit = i; former = (unit_at b i).standing } in
    let one : lawful_entry b.units former ≡ true = and_from _ _ p.0 (stands_at b i k (ltb-true _ _ p.0)) in
    keeps_lawful _ (keeps_entry _ former (keeps_stood b i s k p.1) (entry_stood b.units i s former one) room)

-- a unit that can leave may stand so
pub exit_stands : (b : Books) (i price : ℕ) → lawful b ≡ true → can_leave b i ≡ true → stood_lawfully b.units i (out_at (unit_at b i).standing price) ≡ true
exit_stands b i price h allowed =
    let a = leave_allowed b i allowed in
    let s = lawful_stands _ _ (stands_at b i (lawful_keeps b h) a.unit) in
    and_from _ _ (lt-ltb _ _ a.unit) (stands_lawful _ _ (record { priced = refl; some = s.some; most = s.most }))

pub years_stand : (b : Books) (i years : ℕ) → lawful b ≡ true → first_no (years_questions b i years) ≡ None → stood_lawfully b.units i (for_years (unit_at b i).standing years) ≡ true
years_stand b i years h allowed =
    let a = years_allowed b i years allowed in
    let s = lawful_stands _ _ (stands_at b i (lawful_keeps b h) a.unit) in
    and_from _ _ (lt-ltb _ _ a.unit) (stands_lawful _ _ (record { priced = s.priced; some = a.some; most = omega arith }))

-- the latest entry undone
pub lawful_undone : (us : List Row) (e : Entry) (es : List Entry) → lawful (record { units = us; entries = e ∷ es }) ≡ true → lawful (record { units = with_standing us e.unit e.former; entries = es }) ≡ true
lawful_undone us e es h =
    let k = lawful_keeps (record { units = us; entries = e ∷ es }) h in
    let few = k.few_entries in
    let parts = latest_lawful us e es k.entries in
    let before : Keeps (record { units = us; entries = es })
    = record { few_units = k.few_units; few_entries = omega arith; total = k.total; units = k.units; names = k.names; entries = parts.1 } in
    keeps_lawful _ (keeps_stood (record { units = us; entries = es }) e.unit e.former before (entry_stood_lawfully us e parts.0).1)

pub lawful_stepped_back : (b : Books) → lawful b ≡ true → lawful (stepped_back b) ≡ true
lawful_stepped_back b h = cases b.entries h
  where
    cases : (es : List Entry) → lawful (record { units = b.units; entries = es }) ≡ true → lawful (undone b.units es) ≡ true
    cases [] l = l
    cases (e ∷ es) l = lawful_undone b.units e es l

-- what is known of the unit that an application makes
record Made (a : Application) (u : Row) : Type 0 where
  capacity : u.enrolled.capacity ≡ a.capacity
  name : u.enrolled.name ≡ a.name
  lawful : lawful_unit u ≡ true

made_as : (b : Books) (a : Application) (c : Class) → CanEnrol b a → (1 ≤ a.years) → Made a (enrolled_as a c)
unfolding lawful_unit
made_as b a c can some =
    record {
      capacity = refl;
      name = refl;
      lawful =
          and_from _ _
          (stands_lawful _ _ (record { priced = refl; some = some; most = omega arith }))
          (and_from _ _ (le-leb _ _ can.least) (le-leb _ _ can.most));
    }

made_new : (b : Books) (a : Application) → CanEnrol b a → Made a (new_unit a)
made_new b a can = cases (class_of a.class) can.years
  where
    cases : (o : Option Class) → elim o [ None ↦ false | Some c ↦ leb 1 a.years && leb a.years (most_years c) ] ≡ true → Made a (elim o [ None ↦ enrolled_as a Existing | Some c ↦ enrolled_as a c ])
    cases None h = absurd (let z : ◌≡◌ {A = Bool} false true = h in grind (arith, nat_tests))
    cases (Some c) h = made_as b a c can (leb-true _ _ (and_parts _ _ h).0)

pub lawful_with_unit : (b : Books) (a : Application) → lawful b ≡ true → first_no (enrol_questions b a) ≡ None → lawful (with_unit b (new_unit a)) ≡ true
lawful_with_unit b a h allowed =
    let k = lawful_keeps b h in
    let can = enrol_allowed b a allowed in
    let m = made_new b a can in
    let more = length_push b.units (new_unit a) in
    let sum = total_one_more b.units (new_unit a) in
    let capacity = m.capacity in
    let whole = can.total in
    keeps_lawful _
    (record {
      few_units = omega arith;
      few_entries = k.few_entries;
      total = omega arith;
      units = lawful_one_more b.units (new_unit a) k.units m.lawful;
      names = distinct_one_more b.units (new_unit a) k.names (ap (λ (name : List ℕ). named b.units name) m.name ∙ can.new);
      entries = entries_one_more b.units (new_unit a) b.entries k.entries;
    })

abbrev made : Application → Option Class → Row
made a o = elim o [ None ↦ enrolled_as a Existing | Some c ↦ enrolled_as a c ]

pub new_capacity : (a : Application) → (new_unit a).enrolled.capacity ≡ a.capacity
new_capacity a = cases (class_of a.class)
  where
    cases : (o : Option Class) → (made a o).enrolled.capacity ≡ a.capacity
    cases None = refl
    cases (Some c) = refl

pub total_with_unit : (b : Books) (a : Application) → total_enrolled (with_unit b (new_unit a)).units ≡ total_enrolled b.units + a.capacity
total_with_unit b a = let more = total_one_more b.units (new_unit a) in let capacity = new_capacity a in omega arith

-- a unit that can leave takes its capacity off what is in
pub capacity_less : (b : Books) (i price : ℕ) → lawful b ≡ true → can_leave b i ≡ true → capacity_inside (with_exit b i price).units + (unit_at b i).enrolled.capacity ≡ capacity_inside b.units
capacity_less b i price h allowed =
    let can = leave_allowed b i allowed in
    let s = unit_stands (unit_at b i) (lawful_at b.units i (lawful_keeps b h).units can.unit) in
    capacity_after_exit b i price can.unit (in_has_no_price (unit_at b i).standing s.priced can.inside)

-- the rule as each operation alone leaves it

pub lawful_none : lawful no_books ≡ true
unfolding lawful lawful_units distinct_names lawful_entries
lawful_none = refl

pub lawful_with_exit : (b : Books) (i price : ℕ) → lawful b ≡ true → can_leave b i ≡ true → lawful (with_exit b i price) ≡ true
lawful_with_exit b i price h allowed =
    lawful_with_entry b i _ Exit h (exit_stands b i price h allowed) (leave_allowed b i allowed).room

pub lawful_with_years : (b : Books) (i years : ℕ) → lawful b ≡ true → first_no (years_questions b i years) ≡ None → lawful (with_years b i years) ≡ true
lawful_with_years b i years h allowed =
    lawful_with_entry b i _ Years h (years_stand b i years h allowed) (years_allowed b i years allowed).room

no_entries : (us : List Row) → lawful_entries us [] ≡ true
unfolding lawful_entries
no_entries us = refl

pub lawful_closed : (b : Books) → lawful b ≡ true → lawful (closed_book b) ≡ true
lawful_closed b h =
    let k = lawful_keeps b h in
    keeps_lawful _
    (record { few_units = k.few_units; few_entries = omega arith; total = k.total; units = k.units; names = k.names; entries = no_entries b.units })
