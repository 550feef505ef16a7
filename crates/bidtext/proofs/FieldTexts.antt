-- The fields of a line that is written field by field, and what numbers, words and classes are read as. Assumes nothing.
use Rattle.std.proofs.Common.{◌≡◌, ℕ, Bool, ◌<◌, true, false, eqb, ltb, leb, List, [], ◌∷◌, ◌++◌, length, Ok, codes, decimal, sym, refl, ap, ◌∙◌, subst, ⊎_elim, arith, rules}
use Rattle.bidtext.specs.Letters.{inner, digit}
use Rattle.std.specs.List.{list_all, onto_first}
use Rattle.bidtext.specs.Fields.{pieces, filled, fields}
use Rattle.bidtext.specs.Texts.{class_word}
use Rattle.bidtext.specs.Values.{value_after, value_of, numeral, number_in, class_in}
use Rattle.bidtext.proofs.Pieces.{pieces_letter}
use Rattle.std.proofs.lemmas.Fmt.{decimal_nonempty, digits_decimal, digits_value-decimal}
use Rattle.std.proofs.lemmas.Str.Parse.{IsNumeralModel, numerals_by_fold}
use Rattle.std.proofs.lemmas.Bool.{cond-true, cond-false, and_parts, and_from, cases_eq, le-leb, lt-ltb, ne_eqb}
use Rattle.std.proofs.lemmas.Bool.Decides.{nat_tests}
use Rattle.std.specs.Str.{bytes_eq}

-- bytes that stand in a field
pub record Field (w : List ℕ) : Type 0 where
  pub some : 0 < length w
  pub whole : list_all inner w ≡ true

pieces_field : (b : ℕ) (bs : List ℕ) → inner b ≡ true → pieces (b ∷ bs) ≡ onto_first b (pieces bs)
pieces_field b bs e = pieces_letter b bs (grind (arith, nat_tests)) (grind (arith, nat_tests))

pieces_then : (w rest : List ℕ) → list_all inner w ≡ true → pieces (w ++ (32 ∷ rest)) ≡ w ∷ pieces rest
pieces_then [] rest all = refl
pieces_then (b ∷ w) rest all =
    let p = and_parts (inner b) (list_all inner w) all in
    pieces_field b (w ++ (32 ∷ rest)) p.0 ∙ ap (onto_first b) (pieces_then w rest p.1)

pieces_last : (w : List ℕ) → list_all inner w ≡ true → pieces w ≡ w ∷ []
pieces_last [] all = refl
pieces_last (b ∷ w) all =
    let p = and_parts (inner b) (list_all inner w) all in
    pieces_field b w p.0 ∙ ap (onto_first b) (pieces_last w p.1)

filled_more : (w : List ℕ) (ps : List (List ℕ)) → 0 < length w → filled (w ∷ ps) ≡ w ∷ filled ps
filled_more [] ps some = absurd (omega arith)
filled_more (b ∷ w) ps some = refl

-- a field, a space, and other fields
pub fields_then : (w rest : List ℕ) (fs : List (List ℕ)) → Field w → fields rest ≡ fs → fields (w ++ (32 ∷ rest)) ≡ w ∷ fs
unfolding fields
fields_then w rest fs f e =
    ap filled (pieces_then w rest f.whole) ∙ filled_more w (pieces rest) f.some ∙ ap (λ (xs : List (List ℕ)). w ∷ xs) e

-- one field
pub fields_last : (w : List ℕ) → Field w → fields w ≡ w ∷ []
unfolding fields
fields_last w f = ap filled (pieces_last w f.whole) ∙ filled_more w [] f.some

pub every_inner : (kind : ℕ → Bool) (bs : List ℕ) → ((b : ℕ) → kind b ≡ true → inner b ≡ true) → list_all kind bs ≡ true → list_all inner bs ≡ true
every_inner kind [] h all = refl
every_inner kind (b ∷ bs) h all =
    let p = and_parts (kind b) (list_all kind bs) all in
    and_from (inner b) (list_all inner bs) (h b p.0) (every_inner kind bs h p.1)

pub digit_inner : (b : ℕ) → digit b ≡ true → inner b ≡ true
digit_inner b e = grind (arith, nat_tests)

own : IsNumeralModel (λ ds. list_all digit ds ≡ true) (value_after 0)
own = numerals_by_fold _ (search rules) value_after (search rules)

pub decimal_digits : (n : ℕ) → n < 268435456 → list_all digit (decimal n) ≡ true
decimal_digits n h = digits_decimal own n (omega arith)

pub decimal_field : (n : ℕ) → n < 268435456 → Field (decimal n)
decimal_field n h =
    record { some = decimal_nonempty n (omega arith); whole = every_inner digit (decimal n) digit_inner (decimal_digits n h) }

numeral_decimal : (n : ℕ) → n < 268435456 → numeral (decimal n) ≡ true
numeral_decimal n h =
    and_from (leb 1 (length (decimal n))) (list_all digit (decimal n)) (le-leb 1 (length (decimal n)) (decimal_nonempty n (omega arith))) (decimal_digits n h)

-- a number is read as itself
pub number_reads : (n : ℕ) → n < 268435456 → number_in (decimal n) ≡ Ok n
unfolding number_in
number_reads n h =
    let v : value_of (decimal n) ≡ n = digits_value-decimal own n (omega arith) in
    let small : value_of (decimal n) < 268435456 = omega (arith, v) in
    cond-true (numeral (decimal n)) _ _ (numeral_decimal n h)
    ∙ cond-true (ltb (value_of (decimal n)) 268435456) _ _ (lt-ltb (value_of (decimal n)) 268435456 small)
    ∙ ap (λ (x : ℕ). Ok x) v

-- digits are no word
not_word : (f : List ℕ) (b : ℕ) (w : List ℕ) → list_all digit f ≡ true → 57 < b → bytes_eq f (b ∷ w) ≡ false
not_word [] b w all h = refl
not_word (d ∷ f) b w all h =
    let p = (and_parts (digit d) (list_all digit f) all).0 in
    grind (arith, nat_tests)

abbrev ClassRead : ℕ → Type 0
ClassRead n = class_in (class_word n) ≡ Ok n

class_number : (n : ℕ) → n < 268435456 → class_in (decimal n) ≡ Ok n
class_number n h =
    let digits = decimal_digits n h in
    cond-false (bytes_eq (decimal n) (codes "existing")) _ _ (not_word (decimal n) _ _ digits (omega arith))
    ∙ cond-false (bytes_eq (decimal n) (codes "refurbishing")) _ _ (not_word (decimal n) _ _ digits (omega arith))
    ∙ cond-false (bytes_eq (decimal n) (codes "new")) _ _ (not_word (decimal n) _ _ digits (omega arith))
    ∙ cond-false (bytes_eq (decimal n) (codes "demand")) _ _ (not_word (decimal n) _ _ digits (omega arith))
    ∙ cond-true (numeral (decimal n)) _ _ (numeral_decimal n h)
    ∙ number_reads n h

word_number : (n : ℕ) → (n ≡ 0 → ⊥) → (n ≡ 1 → ⊥) → (n ≡ 2 → ⊥) → (n ≡ 3 → ⊥) → class_word n ≡ decimal n
word_number n a b c d =
    cond-false (eqb n 0) _ _ (ne_eqb n 0 a) ∙ cond-false (eqb n 1) _ _ (ne_eqb n 1 b) ∙ cond-false (eqb n 2) _ _ (ne_eqb n 2 c) ∙ cond-false (eqb n 3) _ _ (ne_eqb n 3 d)

-- a property of the word of each class, from those of the four words and of the numbers
pub by_class : (P : ℕ → List ℕ → Type 0) (n : ℕ) → P 0 (codes "existing") → P 1 (codes "refurbishing") → P 2 (codes "new") → P 3 (codes "demand") → P n (decimal n) → P n (class_word n)
by_class P n p q r s t =
    ⊎_elim (λ e. subst (λ (k : ℕ). P k (class_word k)) (sym e) p) (λ a.
    ⊎_elim (λ e. subst (λ (k : ℕ). P k (class_word k)) (sym e) q) (λ b.
    ⊎_elim (λ e. subst (λ (k : ℕ). P k (class_word k)) (sym e) r) (λ c.
    ⊎_elim (λ e. subst (λ (k : ℕ). P k (class_word k)) (sym e) s) (λ d. subst (P n) (sym (word_number n a b c d)) t)
    (cases_eq n 3)) (cases_eq n 2)) (cases_eq n 1)) (cases_eq n 0)

-- a class is read as itself
pub class_reads : (n : ℕ) → n < 268435456 → class_in (class_word n) ≡ Ok n
class_reads n h = by_class (λ (k : ℕ) (w : List ℕ). class_in w ≡ Ok k) n refl refl refl refl (class_number n h)

pub word : (w : List ℕ) → list_all inner w ≡ true → 0 < length w → Field w
word w e some = record { some = some; whole = e }

pub class_field : (n : ℕ) → n < 268435456 → Field (class_word n)
class_field n h =
    by_class (λ (k : ℕ) (w : List ℕ). Field w) n (word _ refl (omega arith)) (word _ refl (omega arith)) (word _ refl (omega arith)) (word _ refl (omega arith)) (decimal_field n h)
