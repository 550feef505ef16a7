-- In a clearable round prices never fall from place to place, sums rise, and both stay in their ranges.
use Rattle.std.proofs.Common.{◌≡◌, ℕ, zero, suc, ◌+◌, ◌<◌, ◌≤◌, List, [], ◌∷◌, length, get_or, take, sym, refl, ap, ◌∙◌, le_refl, le_of_suc-le-suc, add-one, arith}
use Rattle.std.proofs.lemmas.List.{get_or-map}
use Rattle.std.proofs.lemmas.List.Sums.{sum_by-cons, sum_by_more, sum_by-take-le}
use Rattle.curve.specs.Meaning.{ceiling}
use Rattle.ranking.specs.declared.exits.Exit.{Exit}
use Rattle.clearing.specs.declared.place.Place.{Place}
use Rattle.clearing.specs.Places.{price_at, sum_at, place_at, place_after}
use Rattle.clearing.specs.Premise.{Clearable}
use Rattle.clearing.proofs.Walk.{next_clearable}

-- seen from the first exit on, a place is one nearer
pub sum_next : (s0 : ℕ) (e : Exit) (es : List Exit) (i : ℕ) → sum_at s0 (e ∷ es) (suc i) ≡ sum_at (s0 + e.capacity) es i
sum_next s0 e es i = omega (arith, sum_by-cons (λ (x : Exit). x.capacity) e (take i es))

pub sum_first : (s0 : ℕ) (exits : List Exit) → sum_at s0 exits 0 ≡ s0
sum_first s0 exits = omega arith

-- prices never fall
pub from_floor : (floor s0 : ℕ) (exits : List Exit) → Clearable floor s0 exits → (j : ℕ) → j ≤ length exits → floor ≤ price_at floor exits j
from_floor floor s0 exits ok zero le = le_refl floor
from_floor floor s0 [] ok (suc j) le = absurd (omega arith)
from_floor floor s0 (e ∷ es) ok (suc j) le =
    let step : floor ≤ e.price = ok.prices_least.0 in
    let rest = from_floor e.price (s0 + e.capacity) es (next_clearable floor s0 e es ok) j (le_of_suc-le-suc le) in
    omega (arith, step, rest)

pub prices_never_fall : (floor s0 : ℕ) (exits : List Exit) → Clearable floor s0 exits → (i j : ℕ) → i ≤ j → j ≤ length exits → price_at floor exits i ≤ price_at floor exits j
prices_never_fall floor s0 exits ok zero j le in' = from_floor floor s0 exits ok j in'
prices_never_fall floor s0 exits ok (suc i) zero le in' = absurd (omega arith)
prices_never_fall floor s0 [] ok (suc i) (suc j) le in' = absurd (omega arith)
prices_never_fall floor s0 (e ∷ es) ok (suc i) (suc j) le in' =
    prices_never_fall e.price (s0 + e.capacity) es (next_clearable floor s0 e es ok) i j (le_of_suc-le-suc le) (le_of_suc-le-suc in')

-- sums rise
pub sums_never_fall : (s0 : ℕ) (exits : List Exit) (i j : ℕ) → i ≤ j → sum_at s0 exits i ≤ sum_at s0 exits j
sums_never_fall s0 exits zero j le = omega arith
sums_never_fall s0 exits (suc i) zero le = absurd (omega arith)
sums_never_fall s0 [] (suc i) (suc j) le = le_refl (s0 + 0)
sums_never_fall s0 (e ∷ es) (suc i) (suc j) le =
    omega (arith, sum_next s0 e es i, sum_next s0 e es j, sums_never_fall (s0 + e.capacity) es i j (le_of_suc-le-suc le))

pub sums_rise : (floor s0 : ℕ) (exits : List Exit) → Clearable floor s0 exits → (i j : ℕ) → i < j → j ≤ length exits → sum_at s0 exits i < sum_at s0 exits j
sums_rise floor s0 exits ok i zero lt in' = absurd (omega arith)
sums_rise floor s0 [] ok i (suc j) lt in' = absurd (omega arith)
sums_rise floor s0 (e ∷ es) ok zero (suc j) lt in' =
    let some : 1 ≤ e.capacity = ok.capacities.0 in
    omega (arith, some, sum_next s0 e es j)
sums_rise floor s0 (e ∷ es) ok (suc i) (suc j) lt in' =
    omega (
      arith,
      sum_next s0 e es i,
      sum_next s0 e es j,
      sums_rise e.price (s0 + e.capacity) es (next_clearable floor s0 e es ok) i j (le_of_suc-le-suc lt) (le_of_suc-le-suc in'),
    )

pub sums_most : (floor s0 : ℕ) (exits : List Exit) → Clearable floor s0 exits → (i : ℕ) → sum_at s0 exits i ≤ ceiling
sums_most floor s0 exits ok i = omega (arith, ok.room, sum_by-take-le (λ (x : Exit). x.capacity) exits i)

make_place : ℕ → ℕ → ℕ → Place
make_place n p s = record { number = n; price = p; sum = s }

pub same_place : (a b : Place) → a.number ≡ b.number → a.price ≡ b.price → a.sum ≡ b.sum → a ≡ b
unfolding make_place
same_place a b en ep es =
    ap (λ (n : ℕ). make_place n a.price a.sum) en
    ∙ ap (λ (p : ℕ). make_place b.number p a.sum) ep
    ∙ ap (make_place b.number b.price) es

-- the place behind one more exit
pub place_next : (floor s0 : ℕ) (exits : List Exit) (d : Exit) (l : ℕ) → l < length exits → place_after (place_at floor s0 exits l) (get_or exits l d) ≡ place_at floor s0 exits (l + 1)
place_next floor s0 exits d l lt =
    same_place _ _ refl
    (sym (get_or-map (λ (x : Exit). x.price) exits l d 0 lt) ∙ ap (λ (i : ℕ). price_at floor exits i) (sym (add-one l)))
    (omega (arith, sum_by_more (λ (x : Exit). x.capacity) exits l d lt))
