-- What the calls leave of the rule that exit prices lie above the floor. Assumes nothing.
use Rattle.std.proofs.Common.{◌≡◌, ℕ, zero, suc, ◌<◌, ◌≤◌, Bool, true, false, cond, ltb, List, [], ◌∷◌, ◌++◌, get_or, Some, None, Option, sym, refl, subst, arith}
use Rattle.std.proofs.lemmas.Bool.{and_parts, and_from, lt-ltb, ltb-true}
use Rattle.std.proofs.lemmas.Bool.Decides.{nat_tests}
use Rattle.auction.specs.Sound.{price_above, exits_above, formers_above, book_above}
use Rattle.auction.specs.State.{State, floor_of, terms_of}
use Rattle.auction.specs.Steps.{open_questions}
use Rattle.book.specs.Asked.{exit_questions}
use Rattle.book.specs.Books.{Books, no_books, no_unit, new_unit, unit_at, out_at, for_years, with_unit, with_entry, with_exit, with_years, undone, stepped_back, closed_book, enrolled_as, class_of}
use Rattle.book.specs.declared.class.Class.{Class}
use Rattle.book.specs.declared.class.Class.TheVariants.{Existing}
use Rattle.book.specs.declared.entry.Entry.{Entry}
use Rattle.book.specs.declared.entry.EntryKind.{EntryKind}
use Rattle.book.specs.declared.entry.EntryKind.TheVariants.{Exit, Years}
use Rattle.book.specs.declared.terms.Application.{Application}
use Rattle.book.specs.declared.terms.Terms.{Terms}
use Rattle.book.specs.declared.unit.Standing.{Standing}
use Rattle.book.specs.declared.unit.Unit.{Unit as Row}
use Rattle.book.proofs.ModelLaws.{with_standing}
use Rattle.curve.specs.Meaning.{Meaning}
use Rattle.book.proofs.Rules.{exit_allowed}
use Rattle.curve.specs.Questions.{Question, first_no}

pub above_parts : (floor : ℕ) (b : Books) → book_above floor b ≡ true → (exits_above floor b.units ≡ true) × (formers_above floor b.entries ≡ true)
unfolding book_above
above_parts floor b h = and_parts _ _ h

above_from : (floor : ℕ) (b : Books) → exits_above floor b.units ≡ true → formers_above floor b.entries ≡ true → book_above floor b ≡ true
unfolding book_above
above_from floor b h k = and_from _ _ h k

-- of one unit more, and of one that stands otherwise

exits_more : (floor : ℕ) (us : List Row) (u : Row) → exits_above floor us ≡ true → price_above floor u.standing ≡ true → exits_above floor (us ++ (u ∷ [])) ≡ true
unfolding exits_above
exits_more floor [] u h k = and_from _ _ k refl
exits_more floor (v ∷ us) u h k = let parts = and_parts _ _ h in and_from _ _ parts.0 (exits_more floor us u parts.1 k)

exits_set : (floor : ℕ) (us : List Row) (i : ℕ) (s : Standing) → exits_above floor us ≡ true → price_above floor s ≡ true → exits_above floor (with_standing us i s) ≡ true
unfolding exits_above
exits_set floor [] i s h k = refl
exits_set floor (u ∷ us) zero s h k = and_from _ _ k (and_parts _ _ h).1
exits_set floor (u ∷ us) (suc i) s h k = let parts = and_parts _ _ h in and_from _ _ parts.0 (exits_set floor us i s parts.1 k)

exits_at : (floor : ℕ) (us : List Row) (i : ℕ) → exits_above floor us ≡ true → price_above floor (get_or us i no_unit).standing ≡ true
unfolding exits_above
exits_at floor [] i h = refl
exits_at floor (u ∷ us) zero h = (and_parts _ _ h).0
exits_at floor (u ∷ us) (suc i) h = exits_at floor us i (and_parts _ _ h).1

formers_more : (floor : ℕ) (e : Entry) (es : List Entry) → price_above floor e.former ≡ true → formers_above floor es ≡ true → formers_above floor (e ∷ es) ≡ true
unfolding formers_above
formers_more floor e es h k = and_from _ _ h k

formers_parts : (floor : ℕ) (e : Entry) (es : List Entry) → formers_above floor (e ∷ es) ≡ true → (price_above floor e.former ≡ true) × (formers_above floor es ≡ true)
unfolding formers_above
formers_parts floor e es h = and_parts _ _ h

pub above_none : (floor : ℕ) (after : Books) → after ≡ no_books → book_above floor after ≡ true
unfolding book_above exits_above formers_above
above_none floor after is = rw is refl

new_above : (floor : ℕ) (a : Application) → price_above floor (new_unit a).standing ≡ true
new_above floor a = cases (class_of a.class)
  where
    cases : (o : Option Class) → price_above floor (elim o as (λ x. Row) [ None ↦ enrolled_as a Existing | Some c ↦ enrolled_as a c ]).standing ≡ true
    cases None = refl
    cases (Some c) = refl

-- of what each operation makes of a book

pub above_with_unit : (floor : ℕ) (b after : Books) (a : Application) → after ≡ with_unit b (new_unit a) → book_above floor b ≡ true → book_above floor after ≡ true
above_with_unit floor b after a is h =
    let parts = above_parts floor b h in
    rw is (above_from floor _ (exits_more floor b.units (new_unit a) parts.0 (new_above floor a)) parts.1)

above_with_entry : (floor : ℕ) (b : Books) (i : ℕ) (s : Standing) (kind : EntryKind) → price_above floor s ≡ true → book_above floor b ≡ true → book_above floor (with_entry b i s kind) ≡ true
above_with_entry floor b i s kind k h =
    let parts = above_parts floor b h in
    above_from floor _ (exits_set floor b.units i s parts.0 k) (formers_more floor _ b.entries (exits_at floor b.units i parts.0) parts.1)

pub above_with_exit : (floor : ℕ) (b after : Books) (i price : ℕ) → after ≡ with_exit b i price → floor < price → book_above floor b ≡ true → book_above floor after ≡ true
above_with_exit floor b after i price is lt h =
    rw is (above_with_entry floor b i (out_at (unit_at b i).standing price) Exit (lt-ltb floor price lt) h)

pub above_with_years : (floor : ℕ) (b after : Books) (i years : ℕ) → after ≡ with_years b i years → book_above floor b ≡ true → book_above floor after ≡ true
above_with_years floor b after i years is h =
    rw is (above_with_entry floor b i (for_years (unit_at b i).standing years) Years (exits_at floor b.units i (above_parts floor b h).0) h)

above_undone : (floor : ℕ) (us : List Row) (es : List Entry) → exits_above floor us ≡ true → formers_above floor es ≡ true → book_above floor (undone us es) ≡ true
above_undone floor us [] h k = above_from floor _ h k
above_undone floor us (e ∷ es) h k =
    let parts = formers_parts floor e es k in above_from floor _ (exits_set floor us e.unit e.former h parts.0) parts.1

pub above_stepped_back : (floor : ℕ) (b after : Books) → after ≡ stepped_back b → book_above floor b ≡ true → book_above floor after ≡ true
above_stepped_back floor b after is h = let parts = above_parts floor b h in rw is (above_undone floor b.units b.entries parts.0 parts.1)

pub above_closed : (floor : ℕ) (b after : Books) → after ≡ closed_book b → book_above floor b ≡ true → book_above floor after ≡ true
unfolding formers_above
above_closed floor b after is h = rw is (above_from floor _ (above_parts floor b h).0 refl)

-- of a lower floor

price_lower : (floor low : ℕ) (s : Standing) → low ≤ floor → price_above floor s ≡ true → price_above low s ≡ true
price_lower floor low s le = cases s.exit
  where
    cases : (o : Option ℕ) → elim o [ None ↦ true | Some p ↦ ltb floor p ] ≡ true → elim o [ None ↦ true | Some p ↦ ltb low p ] ≡ true
    cases None h = refl
    cases (Some p) h = let lt = ltb-true floor p h in lt-ltb low p (omega arith)

exits_lower : (floor low : ℕ) (us : List Row) → low ≤ floor → exits_above floor us ≡ true → exits_above low us ≡ true
unfolding exits_above
exits_lower floor low [] le h = refl
exits_lower floor low (u ∷ us) le h =
    let parts = and_parts _ _ h in and_from _ _ (price_lower floor low u.standing le parts.0) (exits_lower floor low us le parts.1)

formers_lower : (floor low : ℕ) (es : List Entry) → low ≤ floor → formers_above floor es ≡ true → formers_above low es ≡ true
unfolding formers_above
formers_lower floor low [] le h = refl
formers_lower floor low (e ∷ es) le h =
    let parts = and_parts _ _ h in and_from _ _ (price_lower floor low e.former le parts.0) (formers_lower floor low es le parts.1)

pub above_lower : (floor low : ℕ) (b : Books) → low ≤ floor → book_above floor b ≡ true → book_above low b ≡ true
above_lower floor low b le h =
    let parts = above_parts floor b h in above_from low b (exits_lower floor low b.units le parts.0) (formers_lower floor low b.entries le parts.1)

-- what Open asks

pub open_allowed : (m : Meaning) (top spread threshold : ℕ) → first_no (open_questions m top spread threshold) ≡ None → (top ≤ 10000) × (1 ≤ spread)
open_allowed m top spread threshold h = (let k : top ≤ 10000 = grind (arith, nat_tests) in k, let k : 1 ≤ spread = grind (arith, nat_tests) in k)

-- an exit that is let in is above the floor
pub exit_price_above : (s : State) (t : Terms) (b : Books) (i price : ℕ) → t ≡ terms_of s → None ≡ first_no (exit_questions t b i price) → floor_of s < price
exit_price_above s t b i price e h = subst (λ (u : Terms). u.floor < price) e (exit_allowed t b i price (sym h)).above

-- a first question answered "no" is the first "no" of any list that it begins
pub no_first : (q : Question) (qs : List Question) (n : ℕ) → Some n ≡ first_no (q ∷ []) → Some n ≡ first_no (q ∷ qs)
no_first q qs n = cases q.yes
  where
    cases : (b : Bool) → Some n ≡ cond b None (Some q.number) → Some n ≡ cond b (first_no qs) (Some q.number)
    cases true h = absurd (let z : ◌≡◌ {A = ℕ} 0 1 = cc in omega arith)
    cases false h = h
