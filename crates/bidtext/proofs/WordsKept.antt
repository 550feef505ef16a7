-- Of words that were written for records, all is kept. Assumes nothing.
use Rattle.std.proofs.Common.{◌≡◌, ℕ, ◌+◌, ◌%◌, ◌≤◌, true, ◌&&◌, eqb, leb, List, [], ◌∷◌, length, IfOk, Some, None, Option, Result, refl, ap, ◌∙◌, subst, arith}
use Rattle.bidfile.specs.Found.{Found, length_questions}
use Rattle.bidfile.specs.Items.{Item, terms, corner, unit, exit, years, step_back, close, item_kind, size}
use Rattle.bidfile.specs.Layout.{Fits, layout, in_places, ReadsBack}
use Rattle.curve.specs.Questions.{first_no}
use Rattle.std.proofs.lemmas.List.{length-append}
use Rattle.std.proofs.lemmas.Bool.{cond-true, and_from, eq-eqb, le-leb}
use Rattle.std.specs.List.{flat_map, AllByRecursion}
use Rattle.bidtext.specs.declared.listed.Listed.{Listed}
use Rattle.bidtext.specs.Kept.{kept, length_kept, file_kept, text_line, with_text, listed_said}
use Rattle.bidtext.specs.WholeTrip.{WordsKept}

-- one record as it is found
kept_one : (at : ℕ) (item : Item) (fs : List Found) → kept (record { place = at; kind = item_kind item; whole = true; item = Some item } ∷ fs) ≡ (item ∷ (kept fs).0, (kept fs).1)
kept_one at (terms t) fs = refl
kept_one at (corner c) fs = refl
kept_one at (unit u) fs = refl
kept_one at (exit e) fs = refl
kept_one at (years y) fs = refl
kept_one at step_back fs = refl
kept_one at close fs = refl

kept_places : (at : ℕ) (items : List Item) → kept (in_places at items) ≡ (items, None)
kept_places at [] = refl
kept_places at (item ∷ items) =
    kept_one at item (in_places (at + size (item_kind item)) items)
    ∙ ap (λ (k : List Item × Option (ℕ × ℕ)). (item ∷ k.0, k.1)) (kept_places (at + size (item_kind item)) items)

-- the bytes of a record are whole words
length_one : (item : Item) → Fits item → length (layout item) % 4 ≡ 0
length_one (terms t) f = refl
length_one (corner c) f = refl
length_one (unit u) f = let eight = f.named.0 in omega arith
length_one (exit e) f = refl
length_one (years y) f = refl
length_one step_back f = refl
length_one close f = refl

length_all : (items : List Item) → AllByRecursion Fits items → length (flat_map layout items) % 4 ≡ 0
length_all [] f = refl
length_all (item ∷ items) f =
    let here = length_one item f.0 in
    let rest = length_all items f.1 in
    let both = length-append (layout item) (flat_map layout items) in
    omega arith

pub words_kept : ReadsBack → WordsKept
unfolding file_kept
words_kept back items f short =
    let bytes = flat_map layout items in
    let whole : first_no (length_questions bytes) ≡ None = cond-true (eqb (length bytes % 4) 0 && leb (length bytes) 65532) None (Some 23) (and_from (eqb (length bytes % 4) 0) (leb (length bytes) 65532) (eq-eqb (length bytes % 4) 0 (length_all items f)) (le-leb (length bytes) 65532 short)) in
    ap (λ (o : Option ℕ). length_kept o bytes) whole ∙ ap kept (back items f) ∙ kept_places 0 items

-- so the text of such words is the lines of those records
pub text_back : {E : Type 0} → ReadsBack → (file : List ℕ) (r : Result Listed E) → IfOk r (λ l. listed_said l ≡ with_text [] (file_kept file)) → (items : List Item) → AllByRecursion Fits items → file ≡ flat_map layout items → length file ≤ 65532 → IfOk r (λ l. listed_said l ≡ (flat_map text_line items, None))
text_back back file r h items f same short =
    let fits : length (flat_map layout items) ≤ 65532 = omega (arith, ap length same) in
    subst (λ (k : List Item × Option (ℕ × ℕ)). IfOk r (λ l. listed_said l ≡ with_text [] k)) (ap file_kept same ∙ words_kept back items f fits) h
