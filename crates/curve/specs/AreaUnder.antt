-- The running area of sides that fall is the area under their price.
use Rattle.std.specs.Prelude.{◌≡◌, ℕ, ◌+◌, ◌-◌, ◌*◌, ◌<◌, ◌≤◌, List, [], ◌∷◌, nat_le, refl}
use Rattle.std.proofs.Common.{ap, ◌∙◌, mul-le-mul_right, arith}
use Rattle.std.proofs.lemmas.Bool.{cond-true, cond-false, le-leb, lt-leb}
use Rattle.std.specs.List.{AllByRecursion}
use Rattle.curve.specs.declared.side.Side.{Side}
use Rattle.curve.specs.Meaning.{Meaning}
use Rattle.curve.specs.Outline.{Fraction, width, side_price, price, height, widths, column, sum_to, outline}
use Rattle.curve.specs.Rules.{Mean, Along, AreaUnder}
use Rattle.curve.specs.Falling.{Falling}
use Rattle.curve.specs.SumsTo.{sum_none, sum_grows, sum_most, sum_along}

-- a column of the first side, and one past it, with a factor
pub column_here : (s : Side) (ss : List Side) (t k : ℕ) → k ≤ s.to → t * column (s ∷ ss) k ≡ (height s (k - 1) + height s k) * (t * widths ss)
column_here s ss t k le =
    let e = cond-true (nat_le k s.to) ((height s (k - 1) + height s k) * widths ss) (width s * column ss k) (le-leb k s.to le) in
    let f = ap (λ (c : ℕ). t * c) e in
    omega arith

pub column_later : (s : Side) (ss : List Side) (t k : ℕ) → s.to < k → t * column (s ∷ ss) k ≡ t * width s * column ss k
column_later s ss t k lt =
    let e = cond-false (nat_le k s.to) ((height s (k - 1) + height s k) * widths ss) (width s * column ss k) (lt-leb k s.to lt) in
    let f = ap (λ (c : ℕ). t * c) e in
    omega arith

mean_is : (low high n g h c w all : ℕ) → high ≡ low + n * (g + h) * c → all ≡ c * w
    → (high - low) * (2 * (w * 1 * (w * 1))) ≡ 2 * all * (n * (g * (w * 1) + h * (w * 1)))
mean_is low high n g h c w all sum parts =
    let d : high - low ≡ n * (g + h) * c = omega arith in
    let x = ap (λ (z : ℕ). z * (2 * (w * 1 * (w * 1)))) d in
    let y = ap (λ (z : ℕ). 2 * z * (n * (g * (w * 1) + h * (w * 1)))) parts in
    omega arith

height_price : (s : Side) (x : ℕ) → (side_price s x 1).over ≡ height s x
height_price s x = let a : s.to * 1 - x ≡ s.to - x = omega arith in let b : x - s.from * 1 ≡ x - s.from = omega arith in cc

-- f gives the columns past the place q, and `at` the prices there; t is the product of the widths before it
along_all : (q p : ℕ) (ss : List Side) (m : Meaning) (f : ℕ → ℕ) (at : ℕ → ℕ → Fraction) (t all : ℕ) → m.area ≡ sum_to f
    → m.parts ≡ 2 * all → Falling q p ss → all ≡ t * widths ss → ((k : ℕ) → q < k → f k ≡ t * column ss k)
    → ((n d : ℕ) → 1 ≤ d → q * d < n → at n d ≡ price ss n d) → AllByRecursion (Along m at) ss
along_all q p [] m f at t all area parts fall product columns prices = tt
along_all q p (s ∷ ss) m f at t all area parts fall product columns prices =
    let x = fall.0 in
    let c : ℕ = t * widths ss in
    let whole : all ≡ c * width s = omega arith in
    let mean : (x y : ℕ) → s.from ≤ x → x ≤ y → y ≤ s.to → Mean m x y (side_price s x 1) (side_price s y 1) =
    λ x y lo le hi.
    let sum = sum_along s f c x y lo le hi (λ k l h. columns k (omega arith) ∙ column_here s ss t k (omega arith)) in
    let e = mean_is (sum_to f x) (sum_to f y) (y - x) (height s x) (height s y) c (width s) all sum whole in
    let a = height_price s x in
    let b = height_price s y in
    cc in
    let priced : (n d : ℕ) → 1 ≤ d → s.from * d < n → n ≤ s.to * d → at n d ≡ side_price s n d =
    λ n d some lo hi.
    let start = ap (λ (k : ℕ). k * d) x.follows in
    prices n d some (omega arith) ∙ cond-true (nat_le n (s.to * d)) (side_price s n d) (price ss n d) (le-leb n (s.to * d) hi) in
    let before : q ≤ s.to = omega arith in (
      record { priced = priced; mean = mean },
      along_all s.to s.end ss m f at (t * width s) all area parts fall.1 (omega arith)
          (λ k past. columns k (omega arith) ∙ column_later s ss t k past)
          (λ n d some past.
          let less = mul-le-mul_right d before in
          prices n d some (omega arith) ∙ cond-false (nat_le n (s.to * d)) (side_price s n d) (price ss n d) (lt-leb n (s.to * d) past)),
    )

column_none : (ss : List Side) (x k : ℕ) → AllByRecursion (λ s. s.to ≤ x) ss → x < k → column ss k ≤ 0
column_none [] x k each past = omega arith
column_none (s ∷ ss) x k each past =
    let e = column_later s ss 1 k (omega (arith, each.0)) in
    let i = column_none ss x k each.1 past in
    let n : column ss k ≡ 0 = omega arith in
    let z = ap (λ (c : ℕ). 1 * width s * c) n in
    omega arith

level : (ss : List Side) (x y : ℕ) → AllByRecursion (λ s. s.to ≤ x) ss → x ≤ y → sum_to (column ss) y ≡ sum_to (column ss) x
level ss x y each le =
    let up = sum_most (column ss) 0 x y le (λ k lo hi. column_none ss x k each lo) in
    let down = sum_grows (column ss) x y le in
    omega arith

pub area_under : (p : ℕ) (ss : List Side) → Falling 0 p ss → AreaUnder (outline ss) ss
area_under p ss fall =
    record {
      begins = sum_none (column ss);
      along = along_all 0 p ss (outline ss) (column ss) (price ss) 1 (widths ss) refl refl fall (omega arith) (λ k past. omega arith) (λ n d some past. refl);
      past = level ss;
    }
