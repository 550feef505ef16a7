-- Lists that are joined one by one. Assumes nothing.
use Rattle.std.proofs.Common.{◌≡◌, ℕ, ◌+◌, ◌<◌, ◌≤◌, List, [], ◌∷◌, ◌++◌, length, get_or, drop, sym, refl, ap, ◌∙◌, append_assoc, append-nil}
use Rattle.std.proofs.lemmas.List.{at_drop_more, at_drop_all}
use Rattle.std.specs.List.{flat_map, AllByRecursion}

module _ (f : ℕ → List ℕ) (xs : List ℕ) (i : ℕ) where
  -- one more was added
  pub joined_next : (old new whole : List ℕ) → i < length xs → new ≡ old ++ f (get_or xs i 0) → old ++ flat_map f (drop i xs) ≡ whole → new ++ flat_map f (drop (i + 1) xs) ≡ whole
  joined_next old new whole lt added so_far =
      ap (λ (t : List ℕ). t ++ flat_map f (drop (i + 1) xs)) added
      ∙ append_assoc old (f (get_or xs i 0)) (flat_map f (drop (i + 1) xs))
      ∙ sym (at_drop_more (λ (ys : List ℕ). old ++ flat_map f ys) xs i 0 lt)
      ∙ so_far

  -- all were added
  pub joined_done : (now whole : List ℕ) → length xs ≤ i → now ++ flat_map f (drop i xs) ≡ whole → now ≡ whole
  joined_done now whole le so_far =
      sym (append-nil now) ∙ sym (at_drop_all (λ (ys : List ℕ). now ++ flat_map f ys) xs i le) ∙ so_far

pub joined_append : {A : Type 0} (f : A → List ℕ) (xs ys : List A) → flat_map f (xs ++ ys) ≡ flat_map f xs ++ flat_map f ys
joined_append f [] ys = refl
joined_append f (x ∷ xs) ys =
    ap (λ (l : List ℕ). f x ++ l) (joined_append f xs ys) ∙ sym (append_assoc (f x) (flat_map f xs) (flat_map f ys))

pub all_append : {A : Type 0} (P : A → Type 0) (xs ys : List A) → AllByRecursion P xs → AllByRecursion P ys → AllByRecursion P (xs ++ ys)
all_append P [] ys p q = q
all_append P (x ∷ xs) ys p q = (p.0, all_append P xs ys p.1 q)
