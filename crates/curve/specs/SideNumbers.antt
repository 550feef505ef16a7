-- Arithmetic of one side, over plain numbers: u and v are its prices at the start and the end, w its width, a the
-- distance of a place from its start.
use Rattle.std.specs.Prelude.{◌≡◌, ℕ, ◌+◌, ◌-◌, ◌*◌, ◌<◌, ◌≤◌}
use Rattle.std.proofs.Common.{ap, mul-le-mul_right, mul-lt-mul_of_pos_right, lt_of_mul-lt-mul_right, arith}
use Rattle.std.proofs.Math.Nat.{le_of_mul-le-mul_left}
use Rattle.std.specs.Int.{div_ceil}
use Rattle.std.proofs.lemmas.Grind.{div_ceil_times}

-- a quotient that is rounded up is no more than enough
pub up_least : (x y z : ℕ) → 0 < y → x ≤ z * y → div_ceil x y ≤ z
up_least x y z h le =
    let b = (div_ceil_times x y h).1 in
    let s : div_ceil x y < z + 1 = lt_of_mul-lt-mul_right y (omega arith) in
    omega arith

-- the place where the price has come down to p lies on the side
pub crosses_inside : (u v w p : ℕ) → v < p → p ≤ u → div_ceil ((u - p) * w) (u - v) ≤ w
crosses_inside u v w p lo hi =
    let le : u - p ≤ u - v = omega arith in let m2 = mul-le-mul_right w le in up_least ((u - p) * w) (u - v) w (omega arith) (omega arith)

-- a higher price is met no later
pub up_falls : (u v w p r : ℕ) → v < p → p ≤ r → r ≤ u → div_ceil ((u - r) * w) (u - v) ≤ div_ceil ((u - p) * w) (u - v)
up_falls u v w p r lo le hi =
    let some : 0 < u - v = omega arith in
    let closer : u - r ≤ u - p = omega arith in
    let less = mul-le-mul_right w closer in
    let enough = (div_ceil_times ((u - p) * w) (u - v) some).0 in
    up_least ((u - r) * w) (u - v) (div_ceil ((u - p) * w) (u - v)) some (omega arith)

-- in the next five, a place lies a past the start of the side and b before its end, counted in d-ths of a kW; m is what
-- the price falls by along the side, i what it has fallen by at p, j what is left

-- where the price is still at least p, the place is not beyond the crossing
pub not_beyond : (m i j a b w d far : ℕ) → 0 < m → m ≡ i + j → j * a ≤ i * b → w * d ≡ a + b → i * w ≤ far * m → a ≤ far * d
not_beyond m i j a b w d far some sum level wide enough =
    let x = ap (λ (t : ℕ). t * a) sum in
    let y = ap (λ (t : ℕ). i * t) wide in
    let z = mul-le-mul_right d enough in
    le_of_mul-le-mul_left {k = m} (omega arith) some

-- a price of at least p, cleared of its fraction
pub still_above : (u v p a b : ℕ) → v ≤ p → p ≤ u → p * (a + b) ≤ u * b + v * a → (p - v) * a ≤ (u - p) * b
still_above u v p a b lo hi h =
    let e : u ≡ p + (u - p) = omega arith in
    let f : p ≡ v + (p - v) = omega arith in
    let x = ap (λ (t : ℕ). t * b) e in
    let y = ap (λ (t : ℕ). t * a) f in
    omega arith

-- along the side the price is at most that at its start
pub at_most_start : (u v a b : ℕ) → v ≤ u → u * b + v * a ≤ u * (a + b)
at_most_start u v a b le = let x = mul-le-mul_right a le in omega arith

-- above the start's price there is no place
pub none_above : (u v p a b : ℕ) → v ≤ u → u < p → 0 < a + b → p * (a + b) ≤ u * b + v * a → ⊥
none_above u v p a b le hi some h =
    let x = at_most_start u v a b le in
    let y = mul-lt-mul_of_pos_right hi some in
    omega arith

-- at the exact crossing the price is p
pub price_at_crossing : (u v p w m a b : ℕ) → v ≤ p → p ≤ u → m ≡ u - v → b ≡ (p - v) * w → a ≡ (u - p) * w → p * (w * m) ≤ u * b + v * a
price_at_crossing u v p w m a b lo hi fall left gone =
    let i : ℕ = u - p in
    let j : ℕ = p - v in
    let p-is : p ≡ v + j = omega arith in
    let u-is : u ≡ v + i + j = omega arith in
    let m-is : m ≡ i + j = omega arith in
    let x : p * (w * m) ≡ (v + j) * (w * (i + j)) = cc in
    let y : u * b ≡ (v + i + j) * (j * w) = cc in
    let z : v * a ≡ v * (i * w) = cc in
    omega arith
