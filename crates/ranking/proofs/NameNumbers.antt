-- Names as numbers: of two names the one that is lower byte by byte has the lower number. Assumes nothing.
use Rattle.std.proofs.Common.{◌≡◌, ℕ, suc, ◌+◌, ◌*◌, ◌<◌, ◌≤◌, Bool, List, [], ◌∷◌, length, get_or, sym, refl, ap, ◌∙◌, ⊎_elim, arith}
use Rattle.std.specs.Int.{w64, from_be_bytes}
use Rattle.std.proofs.Math.Nat.{mul-le-mul_right}
use Rattle.std.proofs.lemmas.Bool.{cases_lt, cases_eq}
use Rattle.std.proofs.lemmas.Bool.Decides.{nat_tests}
use Rattle.ranking.specs.Ahead.{lower_first, name_first}

-- one byte more in front: the weight of a byte is more than what the bytes behind it can write
byte_first : (x y r s w : ℕ) (t : Bool) → r < w → s < w → lower_first (x * w + r) (y * w + s) t ≡ lower_first x y (lower_first r s t)
byte_first x y r s w t small few =
    ⊎_elim
    (λ lt. let m : suc x * w ≤ y * w = mul-le-mul_right w lt in let e : suc x * w ≡ x * w + w = omega arith in grind (arith, nat_tests))
    (λ (ge : y ≤ x). ⊎_elim (λ e. rw e (grind (arith, nat_tests))) (λ ne. let m : suc y * w ≤ x * w = mul-le-mul_right w (omega arith) in let e : suc y * w ≡ y * w + w = omega arith in grind (arith, nat_tests)) (cases_eq x y))
    (cases_lt x y)

-- the weight of a byte that stands before these
abbrev weight : List ℕ → ℕ
weight [] = 1
weight (b ∷ bs) = 256 * weight bs

same_weight : (xs ys : List ℕ) → length xs ≡ length ys → weight xs ≡ weight ys
same_weight [] [] same = refl
same_weight [] (y ∷ ys) same = absurd (omega arith)
same_weight (x ∷ xs) [] same = absurd (omega arith)
same_weight (x ∷ xs) (y ∷ ys) same = ap (λ (w : ℕ). 256 * w) (same_weight xs ys (omega arith))

-- the number that bytes write, the first with the most weight
abbrev number_of : List ℕ → ℕ
number_of [] = 0
number_of (b ∷ bs) = b * weight bs + number_of bs

number_small : (bs : List ℕ) → ((i : ℕ) → get_or bs i 0 < 256) → number_of bs < weight bs
number_small [] small = omega arith
number_small (b ∷ bs) small =
    let rest = number_small bs (λ i. small (suc i)) in
    let first : b < 256 = small 0 in
    let m : suc b * weight bs ≤ 256 * weight bs = mul-le-mul_right (weight bs) first in
    let e : suc b * weight bs ≡ b * weight bs + weight bs = omega arith in
    omega arith

number_first : (xs ys : List ℕ) (t : Bool) → length xs ≡ length ys → ((i : ℕ) → get_or xs i 0 < 256) → ((i : ℕ) → get_or ys i 0 < 256) → lower_first (number_of xs) (number_of ys) t ≡ name_first xs ys t
number_first [] [] t same small few = refl
number_first [] (y ∷ ys) t same small few = absurd (omega arith)
number_first (x ∷ xs) [] t same small few = absurd (omega arith)
number_first (x ∷ xs) (y ∷ ys) t same small few =
    let long : length xs ≡ length ys = omega arith in
    let w = same_weight xs ys long in
    let lo = number_small xs (λ i. small (suc i)) in
    let hi = number_small ys (λ i. few (suc i)) in
    let hi' : number_of ys < weight xs = omega arith in
    ap (λ (k : ℕ). lower_first (x * weight xs + number_of xs) (y * k + number_of ys) t) (sym w)
    ∙ byte_first x y (number_of xs) (number_of ys) (weight xs) t lo hi'
    ∙ ap (lower_first x y) (number_first xs ys t long (λ i. small (suc i)) (λ i. few (suc i)))

-- eight bytes write the number that the library reads from them
eight : (bs : List ℕ) → length bs ≡ 8 → from_be_bytes w64 bs ≡ number_of bs
eight [] e = absurd (omega arith)
eight (a ∷ []) e = absurd (omega arith)
eight (a ∷ b ∷ []) e = absurd (omega arith)
eight (a ∷ b ∷ c ∷ []) e = absurd (omega arith)
eight (a ∷ b ∷ c ∷ d ∷ []) e = absurd (omega arith)
eight (a ∷ b ∷ c ∷ d ∷ f ∷ []) e = absurd (omega arith)
eight (a ∷ b ∷ c ∷ d ∷ f ∷ g ∷ []) e = absurd (omega arith)
eight (a ∷ b ∷ c ∷ d ∷ f ∷ g ∷ h ∷ []) e = absurd (omega arith)
eight (a ∷ b ∷ c ∷ d ∷ f ∷ g ∷ h ∷ i ∷ []) e = omega arith
eight (a ∷ b ∷ c ∷ d ∷ f ∷ g ∷ h ∷ i ∷ j ∷ bs) e = absurd (omega arith)

-- names of eight bytes, read as numbers, are in the order of the names
pub as_numbers : (xs ys : List ℕ) (t : Bool) → length xs ≡ 8 → length ys ≡ 8 → ((i : ℕ) → get_or xs i 0 < 256) → ((i : ℕ) → get_or ys i 0 < 256) → lower_first (from_be_bytes w64 xs) (from_be_bytes w64 ys) t ≡ name_first xs ys t
as_numbers xs ys t e f small few =
    ap (λ (n : ℕ). lower_first n (from_be_bytes w64 ys) t) (eight xs e)
    ∙ ap (λ (n : ℕ). lower_first (number_of xs) n t) (eight ys f)
    ∙ number_first xs ys t (e ∙ sym f) small few
