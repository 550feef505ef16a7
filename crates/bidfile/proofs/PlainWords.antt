-- Words of kind 0, by their places.
use Rattle.std.proofs.Common.{◌≡◌, ℕ, zero, suc, ◌+◌, ◌<◌, ◌≤◌, Bool, true, false, eqb, List, sym, refl, ap, ◌∙◌, ⊎_elim, arith}
use Rattle.std.proofs.lemmas.Bool.{and_from, cases_lt}
use Rattle.std.proofs.lemmas.Bool.Decides.{nat_tests}
use Rattle.bidfile.specs.Found.{plain_words}
use Rattle.bidfile.specs.Words.{kind_at}

all_plain : (n : ℕ) (bytes : List ℕ) (at : ℕ) → ((j : ℕ) → j < n → eqb (kind_at bytes (at + j)) 0 ≡ true) → plain_words n bytes at ≡ true
all_plain zero bytes at each = refl
all_plain (suc n) bytes at each =
    let here : at + 0 ≡ at = omega arith in
    and_from (eqb (kind_at bytes at) 0) (plain_words n bytes (at + 1)) (sym (ap (λ (k : ℕ). eqb (kind_at bytes k) 0) here) ∙ each 0 (omega arith))
    (all_plain n bytes (at + 1) (λ j lt. let e : at + 1 + j ≡ at + suc j = omega arith in ap (λ (k : ℕ). eqb (kind_at bytes k) 0) e ∙ each (suc j) (omega arith)))

not_plain : (n : ℕ) (bytes : List ℕ) (at i : ℕ) → at ≤ i → i < at + n → eqb (kind_at bytes i) 0 ≡ false → plain_words n bytes at ≡ false
not_plain zero bytes at i le lt odd = absurd (omega arith)
not_plain (suc n) bytes at i le lt odd =
    ⊎_elim
    (λ later. let e = not_plain n bytes (at + 1) i (omega arith) (omega arith) odd in grind (arith, nat_tests))
    (λ here. let e : i ≡ at = omega arith in let f : eqb (kind_at bytes at) 0 ≡ false = sym (ap (λ (k : ℕ). eqb (kind_at bytes k) 0) e) ∙ odd in grind (arith, nat_tests))
    (cases_lt at i)

-- the answer of a test that finds them all of kind 0, or one that is not
pub plain_by : (b : Bool) (n : ℕ) (bytes : List ℕ) (at : ℕ) → (b ≡ true → (j : ℕ) → j < n → eqb (kind_at bytes (at + j)) 0 ≡ true)
    → (b ≡ false → (i : ℕ) × (at ≤ i) × (i < at + n) × (eqb (kind_at bytes i) 0 ≡ false)) → b ≡ plain_words n bytes at
plain_by true n bytes at all one = sym (all_plain n bytes at (all refl))
plain_by false n bytes at all one = let i = one refl in sym (not_plain n bytes at i.0 i.1 i.2 i.3)
