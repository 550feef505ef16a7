-- In a loop over corners: what is left at a turn begins with the corner of that turn.
use Rattle.std.proofs.Common.{◌≡◌, ℕ, ◌+◌, ◌<◌, ◌≤◌, List, [], ◌∷◌, length, get_or, drop, sym, subst}
use Rattle.std.proofs.lemmas.List.{drop_more, drop_all}
use Rattle.curve.specs.declared.corner.Corner.{Corner}

module _ (P : List Corner → Type 0) {cs lent : List Corner} (is : lent ≡ cs) (i : ℕ) where
  pub next_corner : i < length lent → P (drop i cs) → P (get_or lent i (record { quantity = 0; price = 0 }) ∷ drop (i + 1) cs)
  next_corner lt h = subst (λ x. P (drop i x) → P (get_or lent i (record { quantity = 0; price = 0 }) ∷ drop (i + 1) x)) is (subst P (drop_more lent i (record { quantity = 0; price = 0 }) lt)) h

  pub no_corner : length lent ≤ i → P (drop i cs) → P []
  no_corner past h = subst P (drop_all i lent past) (subst (λ x. P (drop i x)) (sym is) h)
