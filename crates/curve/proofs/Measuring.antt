-- Adding up the sides of a curve one after the other gives its running area.
use Rattle.std.proofs.Common.{◌≡◌, ℕ, ◌+◌, ◌-◌, ◌*◌, ◌<◌, ◌≤◌, true, List, [], ◌∷◌, sym, ap, ◌∙◌, subst, mul-le-mul_right, mul-le-mul_left, arith}
use Rattle.curve.specs.declared.corner.Corner.{Corner}
use Rattle.curve.specs.declared.area.Area.{Area}
use Rattle.curve.specs.declared.side.Shape.{Shape}
use Rattle.curve.specs.declared.side.Side.{Side}
use Rattle.curve.specs.Corners.{accepted}
use Rattle.curve.specs.Measures.{Measured}
use Rattle.curve.specs.Outline.{side, sides_from, origin, sides, width, height, widths, column, sum_to, Sound}
use Rattle.curve.specs.AreaUnder.{column_here, column_later}
use Rattle.curve.specs.Columns.{height_start}
use Rattle.curve.specs.Falling.{Next, Walking, walking_start, walking_side, walking_sound, walking_next, side_ends, origin_zero}
use Rattle.curve.specs.SumsTo.{sum_none, sum_grows, sum_most, sum_along}

-- up to the place q twice the area of the sides passed is `twice`, and `rest` are the sides to come
pub record Measuring (all : List Side) (q twice : ℕ) (rest : List Side) : Type 0 where
  pub times : ℕ
  pub product : widths all ≡ times * widths rest
  pub columns : (k : ℕ) → q < k → column all k ≡ times * column rest k
  pub sum : sum_to (column all) q ≡ twice * widths all
  pub small : twice ≤ 20000 * q

pub measuring_start : (all : List Side) → Measuring all 0 0 all
measuring_start all =
    record { times = 1; product = omega arith; columns = λ k past. omega arith; sum = let z = sum_none (column all) in omega arith; small = omega arith }

at_start : (s : Side) → s.from ≤ s.to → height s s.from ≡ s.start * width s
at_start s le = let e : s.from - s.from ≡ 0 = omega arith in let f = ap (λ (k : ℕ). s.end * k) e in omega arith

at_end : (s : Side) → s.from ≤ s.to → height s s.to ≡ s.end * width s
at_end s le = let e : s.to - s.to ≡ 0 = omega arith in let f = ap (λ (k : ℕ). s.start * k) e in omega arith

next_is : (sum twice all t w rest u v : ℕ) → sum ≡ twice * all + w * (u * w + v * w) * (t * rest) → all ≡ t * (w * rest)
    → sum ≡ (twice + w * (u + v)) * all
next_is sum twice all t w rest u v e f = let x = ap (λ (z : ℕ). w * (u + v) * z) f in omega arith

here_is : (sum twice all t w rest n h parts : ℕ) → sum ≡ twice * all + n * h * (t * rest) → all ≡ t * (w * rest) → parts ≡ twice * w + n * h
    → parts * all ≡ sum * w
here_is sum twice all t w rest n h parts e f g =
    let x = ap (λ (z : ℕ). n * h * z) f in
    let y = ap (λ (z : ℕ). z * w) e in
    let k = ap (λ (z : ℕ). z * all) g in
    omega arith

module _ {all : List Side} {q p twice : ℕ} {s : Side} {ss : List Side} (m : Measuring all q twice (s ∷ ss)) (n : Next q p s) where
  up_to : (x : ℕ) → q ≤ x → x ≤ s.to
      → sum_to (column all) x ≡ twice * widths all + (x - q) * (s.start * width s + height s x) * (m.times * widths ss)
  up_to x lo hi =
      let e = sum_along s (column all) (m.times * widths ss) q x (omega arith) lo hi
      (λ k past le. m.columns k past ∙ column_here s ss m.times k (omega arith)) in
      let begin = at_start s (omega arith) in
      let same = ap (height s) n.follows in
      let first : height s q ≡ s.start * width s = cc in
      let all_of = m.sum in
      cc

  measuring_more : s.start ≤ 10000 → Measuring all s.to (twice + width s * (s.start + s.end)) ss
  measuring_more cheap =
      let e = up_to s.to (omega arith) (omega arith) in
      let last = at_end s (omega arith) in
      let far : s.to - q ≡ width s = omega arith in
      let f : sum_to (column all) s.to ≡ twice * widths all + width s * (s.start * width s + s.end * width s) * (m.times * widths ss) = cc in
      let prices : s.start + s.end ≤ 20000 = omega arith in
      let most = mul-le-mul_left (width s) prices in
      record {
        times = m.times * width s;
        product = let g = m.product in omega arith;
        columns = λ k past. m.columns k (omega arith) ∙ column_later s ss m.times k past;
        sum = next_is (sum_to (column all) s.to) twice (widths all) m.times (width s) (widths ss) s.start s.end f m.product;
        small = omega (arith, m.small);
      }

  pub measuring_next : (more : ℕ) → more ≡ width s * (s.start + s.end) → s.start ≤ 10000 → Measuring all s.to (twice + more) ss
  measuring_next more is cheap = subst (λ (x : ℕ). Measuring all s.to (twice + x) ss) (sym is) (measuring_more cheap)

  pub measured_here : (x parts : ℕ) → q ≤ x → x ≤ s.to → parts ≡ twice * width s + (x - q) * (s.start * width s + height s x)
      → parts * widths all ≡ sum_to (column all) x * width s
  measured_here x parts lo hi e =
      here_is (sum_to (column all) x) twice (widths all) m.times (width s) (widths ss) (x - q) (s.start * width s + height s x) parts
      (up_to x lo hi) m.product e

  pub here_small : (x parts : ℕ) → s.start ≤ 10000 → q ≤ x → x ≤ s.to → parts ≡ twice * width s + (x - q) * (s.start * width s + height s x)
      → parts ≤ 20000 * x * width s
  here_small x parts cheap lo hi e =
      let h = height_start q p s x n (omega arith) hi in
      let w = mul-le-mul_right (width s) cheap in
      let high : s.start * width s + height s x ≤ 20000 * width s = omega arith in
      let more = mul-le-mul_left (x - q) high in
      let less = mul-le-mul_right (width s) m.small in
      let apart : x ≡ q + (x - q) = omega arith in
      let all_of = ap (λ (k : ℕ). 20000 * k * width s) apart in
      omega arith

pub measured_past : {all : List Side} {q twice : ℕ} → Measuring all q twice [] → (x : ℕ) → q ≤ x → twice * widths all ≡ sum_to (column all) x * 1
measured_past {all} {q} m x le =
    let none : (k : ℕ) → q < k → column all k ≤ 0 = λ k past. let e = m.columns k past in omega arith in
    let up = sum_most (column all) 0 q x le (λ k lo hi. none k lo) in
    let down = sum_grows (column all) q x le in
    omega (arith, m.sum)

-- on the way along the corners: c was passed, before the place, and cs are to come
pub record Walked (k : Shape) (all : List Corner) (place twice : ℕ) (c : Corner) (cs : List Corner) : Type 0 where
  pub walking : Walking k c cs
  pub measuring : Measuring (sides k all) c.quantity twice (sides_from k c cs)
  pub before : c.quantity ≤ place

pub walked_start : (k : Shape) (all : List Corner) (place : ℕ) → accepted k all ≡ true → Walked k all place 0 (origin all) all
walked_start k all place passed =
    let zero = origin_zero all in
    record {
      walking = walking_start k all passed;
      measuring = subst (λ (q : ℕ). Measuring (sides k all) q 0 (sides k all)) (sym zero) (measuring_start (sides k all));
      before = omega arith;
    }

module _ (k : Shape) (all : List Corner) (place twice : ℕ) (c e : Corner) (es : List Corner) (w : Walked k all place twice c (e ∷ es)) (s : Side) (is : s ≡ side k c e) where
  pub walked_sound : Sound s
  walked_sound = subst Sound (sym is) (walking_sound w.walking)

  next : Next c.quantity c.price s
  next = subst (Next c.quantity c.price) (sym is) (walking_side w.walking)

  here : Measuring (sides k all) c.quantity twice (s ∷ sides_from k e es)
  here = subst (λ (t : Side). Measuring (sides k all) c.quantity twice (t ∷ sides_from k e es)) (sym is) w.measuring

  pub walked_from : s.from ≤ place
  walked_from = let n = next in let b = w.before in omega arith

  pub walked_small : twice ≤ 20000 * s.from
  walked_small = let n = next in let m = w.measuring.small in omega arith

  pub walked_next : (more : ℕ) → more ≡ width s * (s.start + s.end) → s.to < place → Walked k all place (twice + more) e es
  walked_next more is-more past =
      let ends = ap (λ (t : Side). t.to) is ∙ (side_ends k c e).0 in
      record {
        walking = walking_next w.walking;
        measuring = subst (λ (q : ℕ). Measuring (sides k all) q (twice + more) (sides_from k e es)) ends
            (measuring_next here next more is-more walked_sound.cheap);
        before = omega arith;
      }

  pub walked_here : (a : Area) → place ≤ s.to → a.width ≡ width s
      → a.parts ≡ twice * width s + (place - s.from) * (s.start * width s + height s place) → Measured (sides k all) place a
  walked_here a hi wide parts =
      let n = next in
      let b = w.before in
      let sound = walked_sound in
      let from-q = ap (λ (q : ℕ). twice * width s + (place - q) * (s.start * width s + height s place)) n.follows in
      let e = measured_here here n place a.parts b hi (parts ∙ from-q) in
      e ∙ ap (λ (x : ℕ). sum_to (column (sides k all)) place * x) (sym wide)

pub walked_past : (k : Shape) (all : List Corner) (place twice : ℕ) (c : Corner) → Walked k all place twice c []
    → twice * widths (sides k all) ≡ sum_to (column (sides k all)) place * 1
walked_past k all place twice c w = measured_past w.measuring place w.before
