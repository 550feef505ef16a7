-- Along sides that fall, a price reaches to the farthest place, fractions of a kW included, where the price is at least
-- as high, rounded up.
use Rattle.std.specs.Prelude.{◌≡◌, ℕ, ◌+◌, ◌-◌, ◌*◌, ◌<◌, ◌≤◌, true, leb, List, [], ◌∷◌, nat_le, refl}
use Rattle.std.proofs.Common.{⊎_elim, ap, sym, subst, mul-le-mul_right, mul-lt-mul_of_pos_right, mul-pos, arith}
use Rattle.std.proofs.lemmas.Bool.{cases_lt, cond_both, cond-true, cond-false, le-leb, lt-leb, leb-true, leb-false}
use Rattle.std.specs.Int.{div_ceil}
use Rattle.std.proofs.lemmas.Grind.{div_ceil_times}
use Rattle.curve.specs.declared.side.Side.{Side}
use Rattle.curve.specs.Outline.{Fraction, width, side_price, price, crossing, reach}
use Rattle.curve.specs.Rules.{Farthest}
use Rattle.curve.specs.Falling.{Next, Falling}
use Rattle.curve.specs.Reaches.{crossing_least, reach_least}
use Rattle.curve.specs.SideNumbers.{up_least, not_beyond, still_above, at_most_start, none_above, price_at_crossing}

-- the two parts of a side that a place cuts it into make up its width
parts_add : (q t : ℕ) (s : Side) (n d : ℕ) → Next q t s → s.from * d ≤ n → n ≤ s.to * d
    → width s * d ≡ (n - s.from * d) + (s.to * d - n)
parts_add q t s n d x lo hi =
    let e : s.to ≡ s.from + width s = omega arith in let m = ap (λ (k : ℕ). k * d) e in omega arith

wide : (q t : ℕ) (s : Side) (d : ℕ) → Next q t s → 1 ≤ d → 0 < width s * d
wide q t s d x h = let w : 0 < width s = omega arith in mul-pos w h

abbrev AtLeast : ℕ → Fraction → Type 0
AtLeast p f = p * f.under ≤ f.over

side_far : (q t : ℕ) (s : Side) (p n d : ℕ) → Next q t s → s.end < p → 1 ≤ d → s.from * d ≤ n → n ≤ s.to * d
    → AtLeast p (side_price s n d) → n ≤ crossing s p * d
side_far q t s p n d x lo some low high h =
    let a : ℕ = n - s.from * d in
    let b : ℕ = s.to * d - n in
    let sum = parts_add q t s n d x low high in
    let clear : p * (a + b) ≤ s.start * b + s.end * a = subst (λ (k : ℕ). p * k ≤ s.start * b + s.end * a) sum h in
    cond_both (nat_le p s.start) (s.from + div_ceil ((s.start - p) * width s) (s.start - s.end)) s.from (λ (r : ℕ). n ≤ r * d)
    (λ e.
    let hi = leb-true p s.start e in
    let falls : 0 < s.start - s.end = omega arith in
    let far : ℕ = div_ceil ((s.start - p) * width s) (s.start - s.end) in
    let left = not_beyond (s.start - s.end) (s.start - p) (p - s.end) a b (width s) d far falls (omega arith)
    (still_above s.start s.end p a b (omega arith) hi clear) sum (div_ceil_times ((s.start - p) * width s) (s.start - s.end) falls).0 in
    omega arith)
    (λ e.
    let hi = leb-false p s.start e in
    let all = wide q t s d x some in
    let no : ⊥ = none_above s.start s.end p a b x.down hi (omega arith) clear in
    omega arith)

-- past the place q the price is at most t
price_under : (q t : ℕ) (ss : List Side) (n d : ℕ) → Falling q t ss → q * d ≤ n → (price ss n d).over ≤ t * (price ss n d).under
price_under q t [] n d f low = omega arith
price_under q t (s ∷ ss) n d f low =
    let x = f.0 in
    let start = ap (λ (k : ℕ). k * d) x.follows in
    cond_both (nat_le n (s.to * d)) (side_price s n d) (price ss n d) (λ (g : Fraction). g.over ≤ t * g.under)
    (λ e.
    let sum = parts_add q t s n d x (omega arith) (leb-true n (s.to * d) e) in
    let top = at_most_start s.start s.end (n - s.from * d) (s.to * d - n) x.down in
    let less = mul-le-mul_right (width s * d) x.under in
    let same = ap (λ (k : ℕ). s.start * k) sum in
    omega arith)
    (λ e.
    let past = leb-false n (s.to * d) e in
    let i = price_under s.to s.end ss n d f.1 (omega arith) in
    let down : s.end ≤ t = omega arith in
    let less = mul-le-mul_right (price ss n d).under down in
    omega arith)

price_whole : (q t : ℕ) (ss : List Side) (n d : ℕ) → Falling q t ss → 1 ≤ d → 0 < (price ss n d).under
price_whole q t [] n d f some = omega arith
price_whole q t (s ∷ ss) n d f some =
    cond_both (nat_le n (s.to * d)) (side_price s n d) (price ss n d) (λ (g : Fraction). 0 < g.under)
    (λ e. wide q t s d f.0 some) (λ e. price_whole s.to s.end ss n d f.1 some)

none_beyond : (q t : ℕ) (ss : List Side) (p n d : ℕ) → Falling q t ss → 1 ≤ p → 1 ≤ d → AtLeast p (price ss n d) → n ≤ reach q ss p * d
none_beyond q t [] p n d f high some = λ h. omega arith
none_beyond q t (s ∷ ss) p n d f high some =
    let x = f.0 in
    let least = reach_least s.to s.end ss p f.1 in
    let here : n ≤ s.to * d → AtLeast p (side_price s n d) → n ≤ reach q (s ∷ ss) p * d =
    λ end h.
    cond_both (nat_le p s.end) (reach s.to ss p) (crossing s p) (λ (r : ℕ). n ≤ r * d)
    (λ e. let m = mul-le-mul_right d least in omega arith)
    (λ e.
    let lo = leb-false p s.end e in
    let before : n < s.from * d → n ≤ crossing s p * d =
    λ k. let m = mul-le-mul_right d (crossing_least s p) in omega arith in
    ⊎_elim before (λ k. side_far q t s p n d x lo some k end h) (cases_lt n (s.from * d))) in
    let later : s.to * d < n → AtLeast p (price ss n d) → n ≤ reach q (s ∷ ss) p * d =
    λ past h.
    cond_both (nat_le p s.end) (reach s.to ss p) (crossing s p) (λ (r : ℕ). n ≤ r * d)
    (λ e. none_beyond s.to s.end ss p n d f.1 high some h)
    (λ e.
    let lo = leb-false p s.end e in
    let most = price_under s.to s.end ss n d f.1 (omega arith) in
    let more = mul-lt-mul_of_pos_right lo (price_whole s.to s.end ss n d f.1 some) in
    omega arith) in
    cond_both (nat_le n (s.to * d)) (side_price s n d) (price ss n d) (λ (g : Fraction). AtLeast p g → n ≤ reach q (s ∷ ss) p * d)
    (λ e. here (leb-true n (s.to * d) e)) (λ e. later (leb-false n (s.to * d) e))

-- r is not before any place past q whose price is at least p
abbrev Covers : ℕ → List Side → ℕ → ℕ → Type 0
Covers q ss p r = (n d : ℕ) → 1 ≤ d → q * d < n → AtLeast p (price ss n d) → n ≤ r * d

-- the price is at least p up to the end of a side whose end's price is
to_the_end : (q t : ℕ) (s : Side) (ss : List Side) (p r : ℕ) → Next q t s → p ≤ s.end → Covers q (s ∷ ss) p r → s.to ≤ r
to_the_end q t s ss p r x high covers =
    let on : leb s.to (s.to * 1) ≡ true = le-leb s.to (s.to * 1) (omega arith) in
    let none : s.to * 1 - s.to ≡ 0 = omega arith in
    let nothing = ap (λ (k : ℕ). s.start * k) none in
    let whole : s.to - s.from * 1 ≡ width s = omega arith in
    let all = ap (λ (k : ℕ). s.end * k) whole in
    let less = mul-le-mul_right (width s) high in
    let dear : AtLeast p (side_price s s.to 1) = omega arith in
    let there = covers s.to 1 (omega arith) (omega arith)
    (subst (AtLeast p) (sym (cond-true (nat_le s.to (s.to * 1)) (side_price s s.to 1) (price ss s.to 1) on)) dear) in
    omega arith

-- and up to the exact crossing of a side along which the price comes down to p
to_the_crossing : (q t : ℕ) (s : Side) (ss : List Side) (p r : ℕ) → Next q t s → s.end < p → p ≤ s.start → q ≤ r
    → Covers q (s ∷ ss) p r → s.from + div_ceil ((s.start - p) * width s) (s.start - s.end) ≤ r
to_the_crossing q t s ss p r x lo hi base covers =
    let i : ℕ = s.start - p in
    let j : ℕ = p - s.end in
    let m : ℕ = s.start - s.end in
    let w : ℕ = width s in
    let n : ℕ = s.from * m + i * w in
    let sum : m ≡ i + j = omega arith in
    let some : 0 < m = omega arith in
    let long : s.to ≡ s.from + w = omega arith in
    let to-m = ap (λ (k : ℕ). k * m) long in
    let w-m = ap (λ (k : ℕ). w * k) sum in
    let enough : i * w ≤ (r - s.from) * m → s.from + div_ceil (i * w) m ≤ r = λ k. let u = up_least (i * w) m (r - s.from) some k in omega arith in
    let at_once : i * w < 1 → s.from + div_ceil (i * w) m ≤ r = λ k. enough (omega arith) in
    let further : 1 ≤ i * w → s.from + div_ceil (i * w) m ≤ r =
    λ k.
    let on : leb n (s.to * m) ≡ true = le-leb n (s.to * m) (omega arith) in
    let before : s.to * m - n ≡ j * w = omega arith in
    let after : n - s.from * m ≡ i * w = omega arith in
    let dear : AtLeast p (side_price s n m) =
    price_at_crossing s.start s.end p w m (n - s.from * m) (s.to * m - n) (omega arith) hi refl before after in
    let start-m = ap (λ (z : ℕ). z * m) x.follows in
    let there = covers n m some (omega arith)
    (subst (AtLeast p) (sym (cond-true (nat_le n (s.to * m)) (side_price s n m) (price ss n m) on)) dear) in
    let apart : r ≡ s.from + (r - s.from) = omega arith in
    let r-m = ap (λ (z : ℕ). z * m) apart in
    enough (omega arith) in
    ⊎_elim at_once further (cases_lt (i * w) 1)

reach_covered : (q t : ℕ) (ss : List Side) (p r : ℕ) → Falling q t ss → q ≤ r → Covers q ss p r → reach q ss p ≤ r
reach_covered q t [] p r f base covers = base
reach_covered q t (s ∷ ss) p r f base covers =
    let x = f.0 in
    cond_both (nat_le p s.end) (reach s.to ss p) (crossing s p) (λ (k : ℕ). k ≤ r)
    (λ e.
    let on : s.to ≤ r = to_the_end q t s ss p r x (leb-true p s.end e) covers in
    reach_covered s.to s.end ss p r f.1 on
    (λ n d some past dear.
    let less : q ≤ s.to = omega arith in
    let m = mul-le-mul_right d less in
    covers n d some (omega arith)
    (subst (AtLeast p) (sym (cond-false (nat_le n (s.to * d)) (side_price s n d) (price ss n d) (lt-leb n (s.to * d) past))) dear)))
    (λ e.
    let lo = leb-false p s.end e in
    cond_both (nat_le p s.start) (s.from + div_ceil ((s.start - p) * width s) (s.start - s.end)) s.from (λ (k : ℕ). k ≤ r)
    (λ h. to_the_crossing q t s ss p r x lo (leb-true p s.start h) base covers) (λ h. omega arith))

pub farthest : (t : ℕ) (ss : List Side) (p : ℕ) → Falling 0 t ss → 1 ≤ p → Farthest (price ss) p (reach 0 ss p)
farthest t ss p f high =
    record {
      far = λ n d some dear. none_beyond 0 t ss p n d f high some dear;
      least = λ r none. reach_covered 0 t ss p r f (omega arith) (λ n d some past dear. none n d some dear);
    }
