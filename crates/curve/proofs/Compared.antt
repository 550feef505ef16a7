-- Comparing areas over a common denominator compares the areas themselves; and nothing passes 128 bits.
use Rattle.std.proofs.Common.{◌≡◌, ℕ, zero, suc, ◌+◌, ◌-◌, ◌*◌, ◌^◌, ◌<◌, ◌≤◌, ltb, ℤ, pos, negsuc, ◌-ℤ◌, ◌*ℤ◌, neg_ℤ, sym, ap, ◌∙◌, mul-le-mul_right, mul-le-mul, lt_of_mul-lt-mul_right, mul-lt-mul_of_pos_right, mul-pos, le_of_mul-le-mul_right, arith, w64, SFits, to_z, of_z}
use lib.Signed.{mag}
use mir.Syntax.{w128}
use Rattle.std.proofs.lemmas.Int.{ints, to_z-of_z}
use Rattle.std.proofs.lemmas.Bool.Decides.{nat_tests}
use Rattle.curve.specs.Weighing.{compared}

mag_neg : (r : ℕ) → mag (neg_ℤ (pos r)) ≤ r
mag_neg zero = omega arith
mag_neg (suc r) = omega arith

times_small : (s : ℤ) (n : ℕ) → mag s < 2 ^ 63 → n ≤ 2 ^ 58 → mag (s *ℤ pos n) < 2 ^ 127
times_small (pos a) n lo hi = let le : a ≤ 2 ^ 63 = omega arith in let m = mul-le-mul le hi in omega arith
times_small (negsuc a) n lo hi =
    let le : suc a ≤ 2 ^ 63 = omega arith in let m = mul-le-mul le hi in let k = mag_neg (suc a * n) in omega arith

module _ (s r t : ℤ) (n : ℕ) (fits : SFits w64 s) (is : r ≡ to_z w64 (of_z w64 s)) (times : t ≡ pos n) (le : n ≤ 2 ^ 58) where
  pub goal_is : to_z w128 (of_z w128 (to_z w128 (of_z w128 r) *ℤ to_z w128 (of_z w128 t))) ≡ s *ℤ pos n
  goal_is =
      let same : r ≡ s = is ∙ to_z-of_z w64 s fits in
      let wide : SFits w128 s = record { sfits = let f = fits.sfits in omega arith } in
      let left : to_z w128 (of_z w128 r) ≡ s = ap (λ (z : ℤ). to_z w128 (of_z w128 z)) same ∙ to_z-of_z w128 s wide in
      let right : to_z w128 (of_z w128 t) ≡ pos n = ap (λ (z : ℤ). to_z w128 (of_z w128 z)) times ∙ to_z-of_z w128 (pos n) (record { sfits = omega arith }) in
      let factors = ap (λ (z : ℤ). z *ℤ to_z w128 (of_z w128 t)) left ∙ ap (λ (z : ℤ). s *ℤ z) right in
      ap (λ (z : ℤ). to_z w128 (of_z w128 z)) factors ∙ to_z-of_z w128 (s *ℤ pos n) (record { sfits = times_small s n fits.sfits le })

ltb_same : (x y v w : ℕ) → (x < y → v < w) → (v < w → x < y) → ltb x y ≡ ltb v w
ltb_same x y v w there back = grind (arith, nat_tests)

-- the quantities g, over n, and h, over m, are equal
module _ (g n h m : ℕ) (some : 0 < n) (also : 0 < m) (level : g * m ≡ h * n) where
  below_same : (a : ℕ) → ltb g (a * n) ≡ ltb h (a * m)
  below_same a =
      ltb_same g (a * n) h (a * m)
      (λ lt. let k = mul-lt-mul_of_pos_right lt also in lt_of_mul-lt-mul_right n (omega arith))
      (λ lt. let k = mul-lt-mul_of_pos_right lt some in lt_of_mul-lt-mul_right m (omega arith))

  above_same : (a : ℕ) → ltb (a * n) g ≡ ltb (a * m) h
  above_same a =
      ltb_same (a * n) g (a * m) h
      (λ lt. let k = mul-lt-mul_of_pos_right lt also in lt_of_mul-lt-mul_right n (omega arith))
      (λ lt. let k = mul-lt-mul_of_pos_right lt some in lt_of_mul-lt-mul_right m (omega arith))

  -- a negative sum is below every area
  negative : (a k : ℕ) → 0 < k → suc a * k ≡ suc (suc a * k - 1)
  negative a k lt = let p : 0 < suc a = omega arith in let m = mul-pos p lt in omega arith

  pub compared_same : (s : ℤ) → compared (pos g) (s *ℤ pos n) ≡ compared (pos h) (s *ℤ pos m)
  compared_same (pos a) =
      let x = below_same a in
      let y = above_same a in
      cc
  compared_same (negsuc a) =
      ap (λ (t : ℕ). compared (pos g) (neg_ℤ (pos t))) (negative a n some) ∙ sym (ap (λ (t : ℕ). compared (pos h) (neg_ℤ (pos t))) (negative a m also))

-- a and b are the parts of two areas, over twice v and twice w, and x and y those areas in parts of which twice `all` make one
pub areas_compared : (a b v w x y all : ℕ) (s : ℤ) → 0 < v → 0 < w → 0 < all → a * all ≡ x * v → b * all ≡ y * w → x ≤ y
    → compared (pos (b * v) -ℤ pos (a * w)) (s *ℤ pos (2 * (v * w))) ≡ compared (pos (y - x)) (s *ℤ pos (2 * all))
areas_compared a b v w x y all s v-some w-some some low high le =
    let l = ap (λ (t : ℕ). t * w) low in
    let h = ap (λ (t : ℕ). t * v) high in
    let wide = mul-pos v-some w-some in
    let m = mul-le-mul_right (v * w) le in
    let order : a * w ≤ b * v = le_of_mul-le-mul_right {k = all} (omega arith) some in
    let gap : pos (b * v) -ℤ pos (a * w) ≡ pos (b * v - a * w) = omega (arith, ints) in
    let parts : b * v ≡ a * w + (b * v - a * w) = omega arith in
    let areas : y ≡ x + (y - x) = omega arith in
    let p = ap (λ (t : ℕ). t * all) parts in
    let q = ap (λ (t : ℕ). t * (v * w)) areas in
    ap (λ (z : ℤ). compared z (s *ℤ pos (2 * (v * w)))) gap
    ∙ compared_same (b * v - a * w) (2 * (v * w)) (y - x) (2 * all) (omega arith) (omega arith) (omega arith) s
