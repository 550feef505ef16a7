-- Laws of names: where two differ, that they are the same either way, that they are as numbers, and what a padded one is. Assumes
-- nothing.
use Rattle.std.specs.Prelude.{◌==◌}
use Rattle.std.specs.List.{list_all, prefix_len}
use Rattle.std.proofs.Common.{◌≡◌, ℕ, zero, suc, ◌+◌, ◌<◌, Bool, true, false, eqb, cond, ◌&&◌, List, [], ◌∷◌, length, get_or, drop, ap, ◌∙◌, sym, subst, ⊎_elim, refl, arith}
use Rattle.std.specs.Int.{w64, from_be_bytes, to_be_bytes}
use Rattle.std.proofs.lemmas.Bool.{false≢true, and_parts, eqb-true, eq-eqb, ne_eqb, cases_Bool}
use Rattle.std.proofs.lemmas.List.{ext_get_or}
use Rattle.std.proofs.lemmas.Nat.{be_bytes_8}
use Rattle.std.proofs.lemmas.Bool.Decides.{nat_tests}
use Rattle.book.specs.Names.{name_character, all_spaces, padded, well_formed, same_name}

pub names_differ : (xs ys : List ℕ) (i : ℕ) → length xs ≡ length ys → i < length xs → (get_or xs i 0 ≡ get_or ys i 0 → ⊥) → same_name xs ys ≡ false
names_differ [] ys i e lt other = absurd (omega arith)
names_differ (x ∷ xs) [] i e lt other = absurd (omega arith)
names_differ (x ∷ xs) (y ∷ ys) zero e lt other = grind (arith, nat_tests)
names_differ (x ∷ xs) (y ∷ ys) (suc i) e lt other =
    let rest : same_name xs ys ≡ false = names_differ xs ys i (omega arith) (omega arith) other in
    grind (arith, nat_tests)

pub name_itself : (xs : List ℕ) → same_name xs xs ≡ true
name_itself [] = refl
name_itself (x ∷ xs) = let rest = name_itself xs in grind (arith, nat_tests)

pub names_same : (xs ys : List ℕ) → length xs ≡ length ys → ((k : ℕ) → k < length xs → get_or xs k 0 ≡ get_or ys k 0) → same_name xs ys ≡ true
names_same xs ys e same = let names : xs ≡ ys = ext_get_or 0 xs ys e same in rw (sym names) (name_itself xs)

pub same_name_either_way : (xs ys : List ℕ) → same_name xs ys ≡ same_name ys xs
same_name_either_way [] [] = refl
same_name_either_way [] (y ∷ ys) = refl
same_name_either_way (x ∷ xs) [] = refl
same_name_either_way (x ∷ xs) (y ∷ ys) = let rest = same_name_either_way xs ys in grind (arith, nat_tests)

name_of_same : (xs ys : List ℕ) → same_name xs ys ≡ true → xs ≡ ys
name_of_same [] [] e = refl
name_of_same [] (y ∷ ys) e = absurd (false≢true e)
name_of_same (x ∷ xs) [] e = absurd (false≢true e)
name_of_same (x ∷ xs) (y ∷ ys) e =
    let p = and_parts (eqb x y) (same_name xs ys) e in
    let first = eqb-true x y p.0 in
    let rest = name_of_same xs ys p.1 in
    λ i. first i ∷ rest i

-- names of eight bytes are the same exactly if they write the same number
pub same_as_numbers : (xs ys : List ℕ) → length xs ≡ 8 → length ys ≡ 8 → ((i : ℕ) → get_or xs i 0 < 256) → ((i : ℕ) → get_or ys i 0 < 256) → eqb (from_be_bytes w64 xs) (from_be_bytes w64 ys) ≡ same_name xs ys
same_as_numbers xs ys e f small few =
    ⊎_elim
    (λ (one : same_name xs ys ≡ true). eq-eqb _ _ (ap (from_be_bytes w64) (name_of_same xs ys one)) ∙ sym one)
    (λ (other : same_name xs ys ≡ false).
    ne_eqb _ _ (λ (n : from_be_bytes w64 xs ≡ from_be_bytes w64 ys).
    let back : xs ≡ ys = sym (be_bytes_8 xs _ e small refl) ∙ ap (to_be_bytes w64) n ∙ be_bytes_8 ys _ f few refl in
    false≢true (sym other ∙ subst (λ (zs : List ℕ). same_name xs zs ≡ true) back (name_itself xs)))
    ∙ sym other)
    (cases_Bool (same_name xs ys))

pub well_formed_padded : (bs : List ℕ) → 0 < length bs → well_formed bs ≡ (name_character (get_or bs 0 0) && padded bs)
well_formed_padded [] some = absurd (omega arith)
well_formed_padded (b ∷ bs) some = grind (arith, nat_tests)

-- a name is padded if only spaces follow its characters
pub padded_is : (bs : List ℕ) → padded bs ≡ list_all (λ b. b == 32) (drop (prefix_len name_character bs) bs)
padded_is [] = refl
padded_is (b ∷ bs) = cases (name_character b) (padded_is bs)
  where
    spaces : (xs : List ℕ) → all_spaces xs ≡ list_all (λ x. x == 32) xs
    spaces [] = refl
    spaces (x ∷ xs) = ap (λ (r : Bool). (x == 32) && r) (spaces xs)

    cases : (a : Bool) → padded bs ≡ list_all (λ x. x == 32) (drop (prefix_len name_character bs) bs) → cond a (padded bs) ((b == 32) && all_spaces bs) ≡ list_all (λ x. x == 32) (drop (cond a (1 + prefix_len name_character bs) 0) (b ∷ bs))
    cases true rest = let one : 1 + prefix_len name_character bs ≡ suc (prefix_len name_character bs) = omega arith in rw one rest
    cases false rest = ap (λ (r : Bool). (b == 32) && r) (spaces bs)
