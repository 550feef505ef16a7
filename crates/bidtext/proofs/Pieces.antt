-- How the first field of a line is cut off. Assumes nothing.
use Rattle.std.proofs.Common.{◌≡◌, ℕ, zero, suc, ◌+◌, Bool, true, false, cond, eqb, List, [], ◌∷◌, take, drop, sym, refl, ap, ◌∙◌, subst, add-one, one-add, arith}
use Rattle.bidtext.specs.Fields.{pieces, filled, fields, field_at, after}
use Rattle.bidtext.specs.Letters.{blank, inner}
use Rattle.std.proofs.lemmas.Bool.{cond-true, cond-false, cond_both}
use Rattle.std.proofs.lemmas.Bool.Decides.{nat_tests}
use Rattle.std.specs.List.{prefix_len, onto_first}

-- how many bytes of a kind come first
abbrev pub lead : (ℕ → Bool) → List ℕ → ℕ
lead kind bs = prefix_len kind bs

pub lead_yes : (kind : ℕ → Bool) (b : ℕ) (bs : List ℕ) → kind b ≡ true → lead kind (b ∷ bs) ≡ suc (lead kind bs)
lead_yes kind b bs e = cond-true (kind b) (1 + lead kind bs) 0 e ∙ one-add (lead kind bs)

pub lead_no : (kind : ℕ → Bool) (b : ℕ) (bs : List ℕ) → kind b ≡ false → lead kind (b ∷ bs) ≡ 0
lead_no kind b bs e = cond-false (kind b) (1 + lead kind bs) 0 e

-- what a byte is: the start of a comment, a blank, or of a field
pub data Sort (b : ℕ) : Type 0 where
  comment : eqb b 35 ≡ true → inner b ≡ false → Sort b
  space : eqb b 35 ≡ false → inner b ≡ false → blank b ≡ true → Sort b
  letter : eqb b 35 ≡ false → inner b ≡ true → blank b ≡ false → Sort b

sorted : (b : ℕ) (c d : Bool) → eqb b 35 ≡ c → blank b ≡ d → Sort b
sorted b true d e f = comment e (grind (arith, nat_tests))
sorted b false true e f = space e (grind (arith, nat_tests)) f
sorted b false false e f = letter e (grind (arith, nat_tests)) f

pub sort : (b : ℕ) → Sort b
sort b = sorted b (eqb b 35) (blank b) refl refl

pieces_comment : (b : ℕ) (bs : List ℕ) → eqb b 35 ≡ true → pieces (b ∷ bs) ≡ [] ∷ []
pieces_comment b bs e = cond-true (eqb b 35) ([] ∷ []) (cond (blank b) ([] ∷ pieces bs) (onto_first b (pieces bs))) e

pieces_space : (b : ℕ) (bs : List ℕ) → eqb b 35 ≡ false → blank b ≡ true → pieces (b ∷ bs) ≡ [] ∷ pieces bs
pieces_space b bs e f =
    cond-false (eqb b 35) ([] ∷ []) (cond (blank b) ([] ∷ pieces bs) (onto_first b (pieces bs))) e
    ∙ cond-true (blank b) ([] ∷ pieces bs) (onto_first b (pieces bs)) f

pub pieces_letter : (b : ℕ) (bs : List ℕ) → eqb b 35 ≡ false → blank b ≡ false → pieces (b ∷ bs) ≡ onto_first b (pieces bs)
pieces_letter b bs e f =
    cond-false (eqb b 35) ([] ∷ []) (cond (blank b) ([] ∷ pieces bs) (onto_first b (pieces bs))) e
    ∙ cond-false (blank b) ([] ∷ pieces bs) (onto_first b (pieces bs)) f

-- a blank in front changes nothing
pub fields_space : (b : ℕ) (bs : List ℕ) → blank b ≡ true → fields (b ∷ bs) ≡ fields bs
unfolding fields
fields_space b bs f = ap filled (pieces_space b bs (grind (arith, nat_tests)) f)

-- nor do all blanks in front
pub skip : (bs : List ℕ) → fields (drop (lead blank bs) bs) ≡ fields bs
skip [] = refl
skip (b ∷ bs) =
    cond_both (blank b) (1 + lead blank bs) 0 (λ (n : ℕ). fields (drop n (b ∷ bs)) ≡ fields (b ∷ bs))
    (λ e. ap (λ (n : ℕ). fields (drop n (b ∷ bs))) (one-add (lead blank bs)) ∙ skip bs ∙ sym (fields_space b bs e)) (λ e. refl)

-- after them comes none
pub skipped : (bs : List ℕ) → lead blank (drop (lead blank bs) bs) ≡ 0
skipped [] = refl
skipped (b ∷ bs) =
    cond_both (blank b) (1 + lead blank bs) 0 (λ (n : ℕ). lead blank (drop n (b ∷ bs)) ≡ 0)
    (λ e. ap (λ (n : ℕ). lead blank (drop n (b ∷ bs))) (one-add (lead blank bs)) ∙ skipped bs) (λ e. lead_no blank b bs e)

-- the first piece is what comes first of a field, and what follows it has the same other pieces
abbrev Cut : List ℕ → ℕ → Type 0
Cut bs n = (pieces bs ≡ take n bs ∷ after (pieces bs)) × (pieces (drop n bs) ≡ [] ∷ after (pieces bs))

begun : (ps : List (List ℕ)) (p : List ℕ) (qs : List (List ℕ)) → ps ≡ p ∷ qs → ps ≡ p ∷ after ps
begun ps p qs e = e ∙ ap (λ (xs : List (List ℕ)). p ∷ after xs) (sym e)

cut_letter : (b : ℕ) (bs : List ℕ) → pieces (b ∷ bs) ≡ onto_first b (pieces bs) → Cut bs (lead inner bs) → Cut (b ∷ bs) (suc (lead inner bs))
cut_letter b bs e i =
    let whole : pieces (b ∷ bs) ≡ (b ∷ take (lead inner bs) bs) ∷ after (pieces bs) = e ∙ ap (onto_first b) i.0 in
    (begun (pieces (b ∷ bs)) (b ∷ take (lead inner bs) bs) (after (pieces bs)) whole, i.1 ∙ ap (λ (xs : List (List ℕ)). [] ∷ after xs) (sym whole))

pub cut : (bs : List ℕ) → Cut bs (lead inner bs)
cut [] = (refl, refl)
cut (b ∷ bs) =
    elim (sort b) [
      | comment e i ↦ subst (Cut (b ∷ bs)) (sym (lead_no inner b bs i)) (let p = begun (pieces (b ∷ bs)) [] [] (pieces_comment b bs e) in (p, p))
      | space e i f ↦ subst (Cut (b ∷ bs)) (sym (lead_no inner b bs i)) (let p = begun (pieces (b ∷ bs)) [] (pieces bs) (pieces_space b bs e f) in (p, p))
      | letter e i f ↦ subst (Cut (b ∷ bs)) (sym (lead_yes inner b bs i)) (cut_letter b bs (pieces_letter b bs e f) (cut bs))
    ]

-- a line that begins with n bytes of a field, and with no blank
abbrev First : List ℕ → ℕ → Type 0
First bs n = (take n bs ≡ field_at (fields bs) 0) × (fields (drop n bs) ≡ after (fields bs))

first_comment : (b : ℕ) (bs : List ℕ) → eqb b 35 ≡ true → First (b ∷ bs) 0
unfolding fields
first_comment b bs e =
    let none : filled (pieces (b ∷ bs)) ≡ [] = ap filled (pieces_comment b bs e) in
    (sym (ap (λ (fs : List (List ℕ)). field_at fs 0) none), none ∙ ap after (sym none))

first_letter : (b : ℕ) (bs : List ℕ) → Cut (b ∷ bs) (suc (lead inner bs)) → First (b ∷ bs) (suc (lead inner bs))
unfolding fields
first_letter b bs i =
    let all : filled (pieces (b ∷ bs)) ≡ (b ∷ take (lead inner bs) bs) ∷ filled (after (pieces (b ∷ bs))) = ap filled i.0 in
    (sym (ap (λ (fs : List (List ℕ)). field_at fs 0) all), ap filled i.1 ∙ sym (ap after all))

pub first : (bs : List ℕ) → lead blank bs ≡ 0 → First bs (lead inner bs)
unfolding fields
first [] none = (refl, refl)
first (b ∷ bs) none =
    elim (sort b) [
      | comment e i ↦ subst (First (b ∷ bs)) (sym (lead_no inner b bs i)) (first_comment b bs e)
      | space e i f ↦ absurd (let s = lead_yes blank b bs f in omega (arith, s, none))
      | letter e i f ↦ subst (First (b ∷ bs)) (sym (lead_yes inner b bs i)) (first_letter b bs (subst (Cut (b ∷ bs)) (lead_yes inner b bs i) (cut (b ∷ bs))))
    ]

-- the same after the blanks in front
pub record Parted (line rest : List ℕ) (n : ℕ) : Type 0 where
  pub field : take n rest ≡ field_at (fields line) 0
  pub others : fields (drop n rest) ≡ after (fields line)

pub parted : (line rest : List ℕ) (k n : ℕ) → k ≡ lead blank line → rest ≡ drop k line → n ≡ lead inner rest → Parted line rest n
parted line rest k n e f g =
    let there : rest ≡ drop (lead blank line) line = f ∙ ap (λ (i : ℕ). drop i line) e in
    let same : fields rest ≡ fields line = ap fields there ∙ skip line in
    let h = first rest (ap (lead blank) there ∙ skipped line) in
    record {
      field = ap (λ (i : ℕ). take i rest) g ∙ h.0 ∙ ap (λ (fs : List (List ℕ)). field_at fs 0) same;
      others = ap (λ (i : ℕ). fields (drop i rest)) g ∙ h.1 ∙ ap after same;
    }

passed : (fs : List (List ℕ)) (k : ℕ) → after (drop k fs) ≡ drop (suc k) fs
passed [] zero = refl
passed [] (suc k) = refl
passed (f ∷ fs) zero = refl
passed (f ∷ fs) (suc k) = passed fs k

-- the fields that are left after some have been passed
pub passed_more : (fs : List (List ℕ)) (k : ℕ) → after (drop k fs) ≡ drop (k + 1) fs
passed_more fs k = rw add-one (passed fs k)
