-- What std says of a test put to every element and the next one is `neighbours`.
use Rattle.std.proofs.Common.{◌≡◌, ℕ, zero, suc, ◌+◌, ◌<◌, Bool, true, false, ◌&&◌, List, [], ◌∷◌, length, get_or, sym, refl, ap, arith}
use native.Mathlib.Numerals.{unary_clauses}
use Rattle.std.specs.List.{IsAllAdjacentAnswer}
use Rattle.std.proofs.lemmas.Bool.{and_from}
use Rattle.curve.specs.declared.corner.Corner.{Corner}
use Rattle.curve.specs.Corners.{neighbours_from, neighbours}

module _ (test : Corner → Corner → Bool) where
  all_keep : (c : Corner) (cs : List Corner)
      → ((k : ℕ) (d : Corner) → k + 1 < length (c ∷ cs) → true ≡ test (get_or (c ∷ cs) k d) (get_or (c ∷ cs) (k + 1) d)) → true ≡ neighbours_from test c cs
  all_keep c [] each = refl
  all_keep c (e ∷ es) each =
      sym (and_from _ _ (sym (each 0 c (omega arith))) (sym (all_keep e es (λ k d lt. let h = simp unary_clauses at (each (suc k) d (omega arith)) in simp unary_clauses h))))

  one_fails : (c : Corner) (cs : List Corner) (k : ℕ) → k + 1 < length (c ∷ cs)
      → ((d : Corner) → false ≡ test (get_or (c ∷ cs) k d) (get_or (c ∷ cs) (k + 1) d)) → false ≡ neighbours_from test c cs
  one_fails c [] k lt fails = absurd (omega arith)
  one_fails c (e ∷ es) zero lt fails = ap (λ b. b && neighbours_from test e es) (fails c)
  one_fails c (e ∷ es) (suc k) lt fails =
      let rest = one_fails e es k (omega arith) (λ d. let h = simp unary_clauses at (fails d) in simp unary_clauses h) in
      elim (test c e) as (λ b. false ≡ (b && neighbours_from test e es)) [ true ↦ rest | false ↦ refl ]

  pub neighbours_asked : (cs : List Corner) (r : Bool) → IsAllAdjacentAnswer (λ c e b. b ≡ test c e) cs r → r ≡ neighbours test cs
  neighbours_asked [] true each = refl
  neighbours_asked [] false (k, lt, fails) = absurd (omega arith)
  neighbours_asked (c ∷ cs) true each = all_keep c cs each
  neighbours_asked (c ∷ cs) false (k, lt, fails) = one_fails c cs k lt fails
