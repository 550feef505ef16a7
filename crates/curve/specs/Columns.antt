-- How large the columns of sides that fall are.
use Rattle.std.specs.Prelude.{◌≡◌, ℕ, ◌+◌, ◌-◌, ◌*◌, ◌<◌, ◌≤◌, List, [], ◌∷◌, nat_le}
use Rattle.std.proofs.Common.{⊎_elim, ap, mul-le-mul_left, mul-le-mul_right, mul-pos, arith}
use Rattle.std.proofs.lemmas.Bool.{cases_lt, cond_both, cond-true, cond-false, le-leb, lt-leb, leb-true, leb-false}
use Rattle.std.specs.Int.{div_ceil}
use Rattle.std.proofs.lemmas.Grind.{div_ceil_times}
use Rattle.curve.specs.declared.side.Side.{Side}
use Rattle.curve.specs.Outline.{width, crossing, reach, height, widths, column}
use Rattle.curve.specs.Falling.{Next, Falling}
use Rattle.curve.specs.Reaches.{crossing_least, reach_least}
use Rattle.curve.specs.SideNumbers.{at_most_start}

-- two heights of at most p times the width
pair_most : (g h p w rest : ℕ) → g ≤ p * w → h ≤ p * w → (g + h) * rest ≤ p * (2 * (w * rest))
pair_most g h p w rest x y = let m = mul-le-mul_right rest x in let n = mul-le-mul_right rest y in omega arith

deeper : (c p w rest : ℕ) → c ≤ p * (2 * rest) → w * c ≤ p * (2 * (w * rest))
deeper c p w rest le = let m = mul-le-mul_left w le in omega arith

raised : (c p t z : ℕ) → p ≤ t → c ≤ p * z → c ≤ t * z
raised c p t z le h = let m = mul-le-mul_right z le in omega arith

pub height_start : (q t : ℕ) (s : Side) (x : ℕ) → Next q t s → s.from ≤ x → x ≤ s.to → height s x ≤ s.start * width s
height_start q t s x n lo hi =
    let m = at_most_start s.start s.end (x - s.from) (s.to - x) n.down in
    let e : (x - s.from) + (s.to - x) ≡ width s = omega arith in
    let f = ap (λ (k : ℕ). s.start * k) e in
    omega arith

-- what the price has fallen by at a place past the crossing
fallen : (u v p w a b : ℕ) → v ≤ p → p ≤ u → w ≡ a + b → (u - p) * w ≤ (u - v) * a → u * b + v * a ≤ p * w
fallen u v p w a b lo hi sum past =
    let e : u ≡ p + (u - p) = omega arith in
    let f : u ≡ v + (u - v) = omega arith in
    let x = ap (λ (k : ℕ). k * w) e in
    let y = ap (λ (k : ℕ). k * a) f in
    let z = ap (λ (k : ℕ). u * k) sum in
    omega arith

-- past the crossing the height is at most p times the width
height_past : (q t : ℕ) (s : Side) (p x : ℕ) → Next q t s → s.end < p → crossing s p ≤ x → x ≤ s.to → height s x ≤ p * width s
height_past q t s p x n lo past hi =
    let low = crossing_least s p in
    let above : s.start < p → height s x ≤ p * width s =
    λ k.
    let m = height_start q t s x n (omega arith) hi in
    let le : s.start ≤ p = omega arith in
    let j = mul-le-mul_right (width s) le in
    omega arith in
    let inside : p ≤ s.start → height s x ≤ p * width s =
    λ k.
    let some : 0 < s.start - s.end = omega arith in
    let far : ℕ = div_ceil ((s.start - p) * width s) (s.start - s.end) in
    let on = cond-true (nat_le p s.start) (s.from + far) s.from (le-leb p s.start k) in
    let dist : far ≤ x - s.from = omega arith in
    let enough = (div_ceil_times ((s.start - p) * width s) (s.start - s.end) some).0 in
    let m = mul-le-mul_left (s.start - s.end) dist in
    fallen s.start s.end p (width s) (x - s.from) (s.to - x) (omega arith) k (omega arith) (omega arith) in
    ⊎_elim above inside (cases_lt s.start p)

-- past the place q, where the price is t
column_under : (q t : ℕ) (ss : List Side) (k : ℕ) → Falling q t ss → q < k → column ss k ≤ t * (2 * widths ss)
column_under q t [] k f past = omega arith
column_under q t (s ∷ ss) k f past =
    let n = f.0 in
    cond_both (nat_le k s.to) ((height s (k - 1) + height s k) * widths ss) (width s * column ss k) (λ (c : ℕ). c ≤ t * (2 * widths (s ∷ ss)))
    (λ e.
    let hi = leb-true k s.to e in
    let g = height_start q t s (k - 1) n (omega arith) (omega arith) in
    let h = height_start q t s k n (omega arith) hi in
    raised _ s.start t (2 * widths (s ∷ ss)) n.under (pair_most (height s (k - 1)) (height s k) s.start (width s) (widths ss) g h))
    (λ e.
    let i = column_under s.to s.end ss k f.1 (leb-false k s.to e) in
    raised _ s.end t (2 * widths (s ∷ ss)) (omega arith) (deeper (column ss k) s.end (width s) (widths ss) i))

-- beyond what is wanted at p
pub column_beyond : (q t : ℕ) (ss : List Side) (p k : ℕ) → Falling q t ss → reach q ss p < k → column ss k ≤ p * (2 * widths ss)
column_beyond q t [] p k f = λ past. omega arith
column_beyond q t (s ∷ ss) p k f =
    let n = f.0 in
    let least = reach_least s.to s.end ss p f.1 in
    let low = crossing_least s p in
    cond_both (nat_le p s.end) (reach s.to ss p) (crossing s p) (λ (r : ℕ). r < k → column (s ∷ ss) k ≤ p * (2 * widths (s ∷ ss)))
    (λ e past.
    let i = column_beyond s.to s.end ss p k f.1 past in
    let off = cond-false (nat_le k s.to) ((height s (k - 1) + height s k) * widths ss) (width s * column ss k) (lt-leb k s.to (omega arith)) in
    let d = deeper (column ss k) p (width s) (widths ss) i in
    omega arith)
    (λ e past.
    let lo = leb-false p s.end e in
    cond_both (nat_le k s.to) ((height s (k - 1) + height s k) * widths ss) (width s * column ss k) (λ (c : ℕ). c ≤ p * (2 * widths (s ∷ ss)))
    (λ h.
    let hi = leb-true k s.to h in
    let before : crossing s p ≤ k - 1 = omega arith in
    let x = height_past q t s p (k - 1) n lo before (omega arith) in
    let y = height_past q t s p k n lo (omega arith) hi in
    pair_most (height s (k - 1)) (height s k) p (width s) (widths ss) x y)
    (λ h.
    let i = column_under s.to s.end ss k f.1 (leb-false k s.to h) in
    raised _ s.end p (2 * widths (s ∷ ss)) (omega arith) (deeper (column ss k) s.end (width s) (widths ss) i)))

pub widths_some : (q t : ℕ) (ss : List Side) → Falling q t ss → 0 < widths ss
widths_some q t [] f = omega arith
widths_some q t (s ∷ ss) f =
    let n = f.0 in let w : 0 < width s = omega arith in mul-pos w (widths_some s.to s.end ss f.1)
