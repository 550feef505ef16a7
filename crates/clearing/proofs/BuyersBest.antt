-- No stopping place from the last fit on gains the buyer more than the one where the round stops.
use Rattle.std.proofs.Common.{◌≡◌, ℕ, suc, ◌+◌, ◌-◌, ◌*◌, ◌<◌, ◌≤◌, true, false, ◌⊎◌, List, length, ℤ, pos, negsuc, ◌-ℤ◌, ◌*ℤ◌, ◌≤ℤ◌, sym, ap, ◌∙◌, subst, inl, inr, ⊎_elim, mul-le-mul_right, mul-le-mul_left, arith}
use lib.IntN.{pos-*ℤ-pos, negsuc-*ℤ-pos}
use lib.Signed.{lt_z}
use Rattle.std.proofs.lemmas.Int.{ints}
use Rattle.std.proofs.lemmas.Bool.{cases_lt}
use Rattle.curve.specs.Meaning.{Meaning, Laws}
use Rattle.curve.specs.Words.{Words}
use Rattle.ranking.specs.declared.exits.Exit.{Exit}
use Rattle.clearing.specs.declared.ground.Ground.{Ground}
use Rattle.clearing.specs.declared.ground.Ground.TheVariants.{FloorExact, ExitExact, AllFit, NextTaken, NextLeft}
use Rattle.clearing.specs.declared.settlement.Settlement.{Settlement}
use Rattle.clearing.specs.Grounds.{next_taken, Stops, Settles}
use Rattle.clearing.specs.Margins.{weighed, sign_of}
use Rattle.clearing.specs.Places.{price_at, sum_at, place_at, cost, fits, exact, LastFit}
use Rattle.clearing.specs.Premise.{Clearable}
use Rattle.clearing.specs.Sound.{stop_of, gain, Best}
use Rattle.clearing.proofs.LastFits.{one_last_fit}
use Rattle.clearing.proofs.RankedPlaces.{prices_never_fall, sums_never_fall, sums_most}
use Rattle.clearing.proofs.StoppingPlaces.{stop_is}

-- ---- numbers

gain_le : (a b c d : ℕ) → a + d ≤ c + b → (pos a -ℤ pos b) ≤ℤ (pos c -ℤ pos d)
gain_le a b c d h = omega (arith, ints)

gain_same : (z : ℤ) → z ≤ℤ z
gain_same z = omega (arith, ints)

gain_through : (x y z : ℤ) → x ≤ℤ y → y ≤ℤ z → x ≤ℤ z
gain_through x y z h k = omega (arith, ints)

-- at prices p and q, sums s and t and areas x and y
costs_more : (parts p q s t x y : ℕ) → p ≤ q → s ≤ t → x ≤ y → y - x ≤ p * parts * (t - s) → y + parts * (p * s) ≤ x + parts * (q * t)
costs_more parts p q s t x y pq st xy h =
    let dearer : parts * (p * t) ≤ parts * (q * t) = mul-le-mul_left parts (mul-le-mul_right t pq) in
    let apart : t ≡ s + (t - s) = omega arith in
    let split : parts * (p * t) ≡ parts * (p * (s + (t - s))) = ap (λ (n : ℕ). parts * (p * n)) apart in
    omega arith

-- a difference times a number
times_difference : (u v n : ℕ) → (pos v -ℤ pos u) *ℤ pos n ≡ pos (v * n) -ℤ pos (u * n)
times_difference u v n =
    ⊎_elim
    (λ lt.
    let r : ℕ = u - v - 1 in
    let e : pos v -ℤ pos u ≡ negsuc r = omega (arith, ints) in
    let k : u ≡ v + suc r = omega arith in
    let split : u * n ≡ (v + suc r) * n = ap (λ (x : ℕ). x * n) k in
    ap (λ (z : ℤ). z *ℤ pos n) e ∙ negsuc-*ℤ-pos r n ∙ omega (arith, ints))
    (λ le.
    let r : ℕ = v - u in
    let e : pos v -ℤ pos u ≡ pos r = omega (arith, ints) in
    let k : v ≡ u + r = omega arith in
    let split : v * n ≡ (u + r) * n = ap (λ (x : ℕ). x * n) k in
    ap (λ (z : ℤ). z *ℤ pos n) e ∙ pos-*ℤ-pos r n ∙ omega (arith, ints))
    (cases_lt v u)

-- the weighed number is the gain of the next place less that of the last fit
weighed_gains : (parts u v x y : ℕ) → x ≤ y → pos (y - x) -ℤ ((pos v -ℤ pos u) *ℤ pos parts) ≡ (pos y -ℤ pos (parts * v)) -ℤ (pos x -ℤ pos (parts * u))
weighed_gains parts u v x y le =
    ap (λ (z : ℤ). pos (y - x) -ℤ z) (times_difference u v parts) ∙ omega (arith, ints)

above_zero : (g h w : ℤ) → w ≡ h -ℤ g → lt_z (pos 0) (sign_of w) ≡ true → g ≤ℤ h
above_zero g h w e t = grind (arith, ints)

not_above : (g h w : ℤ) → w ≡ h -ℤ g → lt_z (pos 0) (sign_of w) ≡ false → h ≤ℤ g
not_above g h w e t = grind (arith, ints)

-- ---- places

module _ (m : Meaning) (laws : Laws m) (words : Words m) (floor s0 : ℕ) (exits : List Exit) (ok : Clearable floor s0 exits) where
  grows : (i j : ℕ) → i ≤ j → m.area (sum_at s0 exits i) ≤ m.area (sum_at s0 exits j)
  grows i j le = laws.grows (sum_at s0 exits i) (sum_at s0 exits j) (sums_never_fall s0 exits i j le) (sums_most floor s0 exits ok j)

  -- from a place where the demand is reached on, no place gains more
  falls_from : (i j : ℕ) → (fits m (place_at floor s0 exits i) ≡ false) ⊎ (exact m (place_at floor s0 exits i) ≡ true) → i ≤ j → j ≤ length exits → gain m (place_at floor s0 exits j) ≤ℤ gain m (place_at floor s0 exits i)
  falls_from i j reached le in' =
      gain_le _ _ _ _
      (costs_more m.parts (price_at floor exits i) (price_at floor exits j) (sum_at s0 exits i) (sum_at s0 exits j) (m.area (sum_at s0 exits i)) (m.area (sum_at s0 exits j))
      (prices_never_fall floor s0 exits ok i j le in')
      (sums_never_fall s0 exits i j le)
      (grows i j le)
      (words.beyond (price_at floor exits i) (sum_at s0 exits i) (sum_at s0 exits j) reached (sums_never_fall s0 exits i j le) (sums_most floor s0 exits ok j)))

  -- between the last fit and the next place the weighed sign decides
  weighed_is : (l : ℕ) → weighed m (place_at floor s0 exits l) (place_at floor s0 exits (l + 1)) ≡ gain m (place_at floor s0 exits (l + 1)) -ℤ gain m (place_at floor s0 exits l)
  weighed_is l =
      weighed_gains m.parts (cost (place_at floor s0 exits l)) (cost (place_at floor s0 exits (l + 1))) (m.area (sum_at s0 exits l)) (m.area (sum_at s0 exits (l + 1))) (grows l (l + 1) (omega arith))

  taken_gains : (l : ℕ) → next_taken m floor s0 exits l ≡ true → gain m (place_at floor s0 exits l) ≤ℤ gain m (place_at floor s0 exits (l + 1))
  taken_gains l taken = above_zero _ _ _ (weighed_is l) taken

  left_gains : (l : ℕ) → next_taken m floor s0 exits l ≡ false → gain m (place_at floor s0 exits (l + 1)) ≤ℤ gain m (place_at floor s0 exits l)
  left_gains l left = not_above _ _ _ (weighed_is l) left

  -- behind the last fit the demand is passed
  passed : (l : ℕ) → LastFit m floor s0 exits l → l < length exits → (fits m (place_at floor s0 exits (l + 1)) ≡ false) ⊎ (exact m (place_at floor s0 exits (l + 1)) ≡ true)
  passed l last lt = inl (last.next_not lt)

  from_last : (l j : ℕ) → j ≡ l → gain m (place_at floor s0 exits j) ≤ℤ gain m (place_at floor s0 exits l)
  from_last l j e = subst (λ (n : ℕ). gain m (place_at floor s0 exits j) ≤ℤ gain m (place_at floor s0 exits n)) e (gain_same (gain m (place_at floor s0 exits j)))

  best_at : (l j : ℕ) → LastFit m floor s0 exits l → l ≤ j → j ≤ length exits → (g : Ground) (k : ℕ) → k ≡ stop_of g l → Stops m floor s0 exits l g k → gain m (place_at floor s0 exits j) ≤ℤ gain m (place_at floor s0 exits k)
  best_at l j last le in' FloorExact k at (met, none) =
      subst (λ (n : ℕ). gain m (place_at floor s0 exits j) ≤ℤ gain m (place_at floor s0 exits n)) (sym none) (falls_from 0 j (inr met) (omega arith) in')
  best_at l j last le in' ExitExact k at (some, in'', met) = falls_from k j (inr met) (omega arith) in'
  best_at l j last le in' AllFit k at (none, end, is) = from_last k j (omega arith)
  best_at l j last le in' NextTaken k at (none, lt, taken, is) =
      subst (λ (n : ℕ). gain m (place_at floor s0 exits j) ≤ℤ gain m (place_at floor s0 exits n)) (sym is)
      (⊎_elim
      (λ here. gain_through _ _ _ (from_last l j (omega arith)) (taken_gains l taken))
      (λ behind. falls_from (l + 1) j (passed l last lt) (omega arith) in')
      (cases_lt j (l + 1)))
  best_at l j last le in' NextLeft k at (none, lt, left, is) =
      subst (λ (n : ℕ). gain m (place_at floor s0 exits j) ≤ℤ gain m (place_at floor s0 exits n)) (sym is)
      (⊎_elim
      (λ here. from_last l j (omega arith))
      (λ behind. gain_through _ _ _ (falls_from (l + 1) j (passed l last lt) (omega arith) in') (left_gains l left))
      (cases_lt j (l + 1)))

  pub best : (s : Settlement) → Settles m floor s0 exits s → Best m floor s0 exits s
  best s st l j last le in' =
      let same : l ≡ st.last = one_last_fit m floor s0 exits l st.last last st.last_fit in
      best_at st.last j st.last_fit (omega arith) in' s.ground s.stop
      (stop_is m words floor s0 exits ok st.last st.last_fit s.ground s.stop st.stops)
      st.stops
