-- Running sums.
use Rattle.std.specs.Prelude.{◌≡◌, ℕ, zero, suc, ◌+◌, ◌-◌, ◌*◌, ◌<◌, ◌≤◌, refl}
use Rattle.std.proofs.Common.{ap, subst, add-suc, arith}
use Rattle.curve.specs.declared.side.Side.{Side}
use Rattle.curve.specs.Outline.{sum_to, height}

pub sum_none : (f : ℕ → ℕ) → sum_to f 0 ≡ 0
unfolding sum_to
sum_none f = refl

sum_more : (f : ℕ → ℕ) (x n : ℕ) → sum_to f (x + suc n) ≡ sum_to f (x + n) + f (suc (x + n))
unfolding sum_to
sum_more f x n = ap (sum_to f) (add-suc x n)

sum_same : (f : ℕ → ℕ) (x : ℕ) → sum_to f (x + 0) ≡ sum_to f x
sum_same f x = let e : x + 0 ≡ x = omega arith in ap (sum_to f) e

grows_by : (f : ℕ → ℕ) (x n : ℕ) → sum_to f x ≤ sum_to f (x + n)
grows_by f x zero = omega (arith, sum_same f x)
grows_by f x (suc n) = omega (arith, sum_more f x n, grows_by f x n)

-- from y back to x and a distance
from_distance : (P : ℕ → Type 0) (x y : ℕ) → x ≤ y → P (x + (y - x)) → P y
from_distance P x y le h = let e : x + (y - x) ≡ y = omega arith in subst P e h

pub sum_grows : (f : ℕ → ℕ) (x y : ℕ) → x ≤ y → sum_to f x ≤ sum_to f y
sum_grows f x y le = from_distance (λ z. sum_to f x ≤ sum_to f z) x y le (grows_by f x (y - x))

most_by : (f : ℕ → ℕ) (c x n : ℕ) → ((k : ℕ) → x < k → k ≤ x + n → f k ≤ c) → sum_to f (x + n) ≤ sum_to f x + c * n
most_by f c x zero each = omega (arith, sum_same f x)
most_by f c x (suc n) each =
    let i = most_by f c x n (λ k lo hi. each k lo (omega arith)) in
    let one = each (suc (x + n)) (omega arith) (omega arith) in
    let more = sum_more f x n in
    omega arith

-- what each term is at most, the sum is at most so many times
pub sum_most : (f : ℕ → ℕ) (c x y : ℕ) → x ≤ y → ((k : ℕ) → x < k → k ≤ y → f k ≤ c) → sum_to f y ≤ sum_to f x + c * (y - x)
sum_most f c x y le each =
    let e : x + (y - x) ≡ y = omega arith in
    let same = ap (sum_to f) e in
    let m = most_by f c x (y - x) (λ k lo hi. each k lo (omega arith)) in
    omega arith

-- a place a past the start of a side, n + 1 before a further one, which lies b before the end: one more trapezium
trapezium_more : (u v a n b : ℕ)
    → n * ((u * (n + 1 + b) + v * a) + (u * (1 + b) + v * (a + n))) + ((u * (1 + b) + v * (a + n)) + (u * b + v * (a + n + 1)))
    ≡ (n + 1) * ((u * (n + 1 + b) + v * a) + (u * b + v * (a + n + 1)))
trapezium_more u v a n b = omega arith

more_is : (n x y z c : ℕ) → n * (x + y) + (y + z) ≡ (n + 1) * (x + z) → n * (x + y) * c + (y + z) * c ≡ (n + 1) * (x + z) * c
more_is n x y z c e = let m = ap (λ (t : ℕ). t * c) e in omega arith

height_at : (s : Side) (x a b : ℕ) → x ≡ s.from + a → s.to ≡ x + b → height s x ≡ s.start * b + s.end * a
height_at s x a b lo hi = let l : s.to - x ≡ b = omega arith in let m : x - s.from ≡ a = omega arith in cc

-- the terms (h (k - 1) + h k) * c of a side add up to a trapezium
along_by : (s : Side) (f : ℕ → ℕ) (c x n : ℕ) → s.from ≤ x → x + n ≤ s.to
    → ((k : ℕ) → x < k → k ≤ x + n → f k ≡ (height s (k - 1) + height s k) * c)
    → sum_to f (x + n) ≡ sum_to f x + n * (height s x + height s (x + n)) * c
along_by s f c x zero lo hi each = omega (arith, sum_same f x)
along_by s f c x (suc n) lo hi each =
    let i = along_by s f c x n lo (omega arith) (λ k l h. each k l (omega arith)) in
    let more = sum_more f x n in
    let one = each (suc (x + n)) (omega arith) (omega arith) in
    let a : ℕ = x - s.from in
    let b : ℕ = s.to - (x + suc n) in
    let back : suc (x + n) - 1 ≡ x + n = omega arith in
    let last : suc (x + n) ≡ x + suc n = omega arith in
    let h-back = ap (height s) back in
    let h-last = ap (height s) last in
    let h0 = height_at s x a (n + 1 + b) (omega arith) (omega arith) in
    let h1 = height_at s (x + n) (a + n) (1 + b) (omega arith) (omega arith) in
    let h2 = height_at s (x + suc n) (a + n + 1) b (omega arith) (omega arith) in
    let t = trapezium_more s.start s.end a n b in
    let e : n * (height s x + height s (x + n)) + (height s (x + n) + height s (x + suc n)) ≡ (n + 1) * (height s x + height s (x + suc n)) = cc in
    let m = more_is n (height s x) (height s (x + n)) (height s (x + suc n)) c e in
    let one-is : f (suc (x + n)) ≡ (height s (x + n) + height s (x + suc n)) * c = cc in
    let n-is : suc n ≡ n + 1 = omega arith in
    let goal_is : suc n * (height s x + height s (x + suc n)) * c ≡ (n + 1) * (height s x + height s (x + suc n)) * c = cc in
    omega arith

pub sum_along : (s : Side) (f : ℕ → ℕ) (c x y : ℕ) → s.from ≤ x → x ≤ y → y ≤ s.to
    → ((k : ℕ) → x < k → k ≤ y → f k ≡ (height s (k - 1) + height s k) * c)
    → sum_to f y ≡ sum_to f x + (y - x) * (height s x + height s y) * c
sum_along s f c x y lo le hi each =
    let e : x + (y - x) ≡ y = omega arith in
    let i = along_by s f c x (y - x) lo (omega arith) (λ k l h. each k l (omega arith)) in
    let same = ap (sum_to f) e in
    let h = ap (λ (z : ℕ). (y - x) * (height s x + height s z) * c) e in
    cc
