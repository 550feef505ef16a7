-- How the premise is met: from a ranking of exits of which enough is known in any order, exit by exit, or by a test.
use Rattle.std.proofs.Common.{◌≡◌, ℕ, zero, suc, ◌+◌, ◌≤◌, Bool, true, ◌&&◌, leb, List, [], ◌∷◌, get_or, sum_by, refl, le_trans, le_refl, le_of_suc-le-suc, arith}
use Rattle.std.specs.List.{AllByRecursion}
use Rattle.std.specs.List.Sorted.{IsNonDecreasingBy, IsPermutation}
use Rattle.std.proofs.ByRecursion.{All-get_or, All-weaker, all_shuffled}
use Rattle.std.proofs.lemmas.List.Sorted.{sum_by-IsPermutation}
use Rattle.std.proofs.lemmas.List.Sums.{sum_by-cons}
use Rattle.std.proofs.lemmas.Bool.{and_parts, leb-true}
use Rattle.curve.specs.Meaning.{ceiling}
use Rattle.ranking.specs.declared.exits.Exit.{Exit}
use Rattle.clearing.specs.Premise.{Clearable, top_price}

-- The exits in any order give all but the rising prices, which the ranking gives.
pub clearable_ranked : (floor s0 : ℕ) (items ranked : List Exit) → IsPermutation items ranked → IsNonDecreasingBy (λ e. e.price) ranked → floor ≤ top_price → AllByRecursion (λ e. e.price ≤ top_price) items → AllByRecursion (λ e. floor ≤ e.price) items → AllByRecursion (λ e. 1 ≤ e.capacity) items → s0 + sum_by (λ e. e.capacity) items ≤ ceiling → Clearable floor s0 ranked
clearable_ranked floor s0 items ranked same rises low most least some room =
    record {
      floor_most = low;
      prices_most = all_shuffled (λ e. e.price ≤ top_price) items ranked same most;
      prices_least = all_shuffled (λ e. floor ≤ e.price) items ranked same least;
      prices_rise = rises;
      capacities = all_shuffled (λ e. 1 ≤ e.capacity) items ranked same some;
      room = omega (arith, sum_by-IsPermutation (λ (e : Exit). e.capacity) items ranked same);
    }

pub clearable_none : (floor s0 : ℕ) → floor ≤ top_price → s0 ≤ ceiling → Clearable floor s0 []
clearable_none floor s0 low few =
    record {
      floor_most = low;
      prices_most = tt;
      prices_least = tt;
      prices_rise = λ i j d le lt. absurd (omega arith);
      capacities = tt;
      room = omega arith;
    }

rises_more : (e : Exit) (es : List Exit) (p s : ℕ) → p ≡ e.price → Clearable p s es → IsNonDecreasingBy (λ x. x.price) (e ∷ es)
rises_more e es p s is ok zero zero d le lt = le_refl e.price
rises_more e es p s is ok zero (suc j) d le lt =
    let step : p ≤ (get_or es j d).price = All-get_or (λ x. p ≤ x.price) es j d (le_of_suc-le-suc lt) ok.prices_least in
    omega (arith, is, step)
rises_more e es p s is ok (suc i) zero d le lt = absurd (omega arith)
rises_more e es p s is ok (suc i) (suc j) d le lt = ok.prices_rise i j d (le_of_suc-le-suc le) (le_of_suc-le-suc lt)

pub clearable_more : (floor s0 : ℕ) (e : Exit) (es : List Exit) → floor ≤ e.price → 1 ≤ e.capacity → Clearable e.price (s0 + e.capacity) es → Clearable floor s0 (e ∷ es)
clearable_more floor s0 e es low some ok =
    record {
      floor_most = le_trans low ok.floor_most;
      prices_most = (ok.floor_most, ok.prices_most);
      prices_least = (low, All-weaker (λ x. e.price ≤ x.price) (λ x. floor ≤ x.price) (λ x h. le_trans low h) es ok.prices_least);
      prices_rise = rises_more e es e.price (s0 + e.capacity) refl ok;
      capacities = (some, ok.capacities);
      room = omega (arith, ok.room, sum_by-cons (λ (x : Exit). x.capacity) e es);
    }

abbrev pub clearable_test : ℕ → ℕ → List Exit → Bool
clearable_test floor s0 [] = leb floor top_price && leb s0 ceiling
clearable_test floor s0 (e ∷ es) =
    (leb floor e.price && leb 1 e.capacity) && clearable_test e.price (s0 + e.capacity) es

pub clearable_tested : (floor s0 : ℕ) (exits : List Exit) → clearable_test floor s0 exits ≡ true → Clearable floor s0 exits
clearable_tested floor s0 [] h =
    let parts = and_parts (leb floor top_price) (leb s0 ceiling) h in
    clearable_none floor s0 (leb-true floor top_price parts.0) (leb-true s0 ceiling parts.1)
clearable_tested floor s0 (e ∷ es) h =
    let parts = and_parts (leb floor e.price && leb 1 e.capacity) (clearable_test e.price (s0 + e.capacity) es) h in
    let here = and_parts (leb floor e.price) (leb 1 e.capacity) parts.0 in
    clearable_more floor s0 e es (leb-true floor e.price here.0) (leb-true 1 e.capacity here.1)
    (clearable_tested e.price (s0 + e.capacity) es parts.1)
