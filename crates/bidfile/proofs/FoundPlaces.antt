-- What is found from a place on is what is found there, and then what is found where that ends.
use Rattle.std.proofs.Common.{◌≡◌, ℕ, zero, suc, ◌+◌, ◌-◌, ◌<◌, ◌≤◌, cond, ltb, List, [], ◌∷◌, sym, refl, ap, ◌∙◌, arith}
use Rattle.std.proofs.lemmas.Bool.Decides.{nat_tests}
use Rattle.bidfile.specs.Found.{Found, found, found_at, found_from}
use Rattle.bidfile.specs.Items.{size}
use Rattle.bidfile.specs.Words.{words, kind_at}

pub size_some : (kind : ℕ) → 1 ≤ size kind
size_some kind = grind (arith, nat_tests)

nothing_past : (f : Found) (fs : List Found) (at n : ℕ) → n ≤ at → cond (ltb at n) (f ∷ fs) [] ≡ []
nothing_past f fs at n le = grind (arith, nat_tests)

something_before : (f : Found) (fs : List Found) (at n : ℕ) → at < n → cond (ltb at n) (f ∷ fs) [] ≡ f ∷ fs
something_before f fs at n lt = grind (arith, nat_tests)

-- more steps than there are words left find no more
steps_enough : (n m : ℕ) (bytes : List ℕ) (at : ℕ) → words bytes - at ≤ n → words bytes - at ≤ m
    → found_from n bytes at ≡ found_from m bytes at
steps_enough zero zero bytes at p q = refl
steps_enough zero (suc m) bytes at p q = sym (nothing_past (found_at bytes at) (found_from m bytes (at + size (kind_at bytes at))) at (words bytes) (omega arith))
steps_enough (suc n) zero bytes at p q = nothing_past (found_at bytes at) (found_from n bytes (at + size (kind_at bytes at))) at (words bytes) (omega arith)
steps_enough (suc n) (suc m) bytes at p q =
    let one = size_some (kind_at bytes at) in
    ap (λ (fs : List Found). cond (ltb at (words bytes)) (found_at bytes at ∷ fs) [])
    (steps_enough n m bytes (at + size (kind_at bytes at)) (omega arith) (omega arith))

pub found_none : (bytes : List ℕ) (at : ℕ) → words bytes ≤ at → found bytes at ≡ []
unfolding found
found_none bytes at le = let e : words bytes - at ≡ 0 = omega arith in ap (λ (n : ℕ). found_from n bytes at) e

pub found_more : (bytes : List ℕ) (at : ℕ) → at < words bytes
    → found bytes at ≡ found_at bytes at ∷ found bytes (at + size (kind_at bytes at))
unfolding found
found_more bytes at lt =
    let e : words bytes - at ≡ suc (words bytes - (at + 1)) = omega arith in
    let one = size_some (kind_at bytes at) in
    let next : ℕ = at + size (kind_at bytes at) in
    ap (λ (n : ℕ). found_from n bytes at) e
    ∙ (something_before (found_at bytes at) (found_from (words bytes - (at + 1)) bytes next) at (words bytes) lt
    ∙ ap (λ (fs : List Found). found_at bytes at ∷ fs) (steps_enough (words bytes - (at + 1)) (words bytes - next) bytes next (omega arith) (omega arith)))
