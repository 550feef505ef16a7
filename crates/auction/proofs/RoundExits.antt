-- The exits of a book at prices up to a cap, and what an entry or a new unit makes of them.
use Rattle.std.proofs.Common.{◌≡◌, ℕ, zero, suc, ◌+◌, ◌<◌, ◌≤◌, Bool, true, false, cond, leb, List, [], ◌∷◌, ◌++◌, length, get_or, set, Some, None, sum_by, Option, sym, refl, ap, ◌∙◌, subst, arith}
use Rattle.std.specs.List.{AllByRecursion}
use Rattle.std.specs.List.Sorted.{IsPermutation}
use Rattle.std.proofs.ByRecursion.{All-weaker}
use Rattle.std.proofs.lemmas.List.Sorted.{IsPermutation-refl, IsPermutation-trans, IsPermutation-cons, IsPermutation-swap}
use Rattle.std.proofs.lemmas.Bool.{cond_both, cond-true, cond-false, le-leb, lt-leb}
use Rattle.book.specs.declared.unit.Unit.{Unit as Row}
use Rattle.book.proofs.ExitLaws.{exits_by, exits_numbered, exits_are_out}
use Rattle.book.proofs.ModelLaws.{total_in_and_out}
use Rattle.book.specs.Books.{no_unit, leaving, capacity_inside, total_enrolled, exits_up_to}
use Rattle.ranking.specs.declared.exits.Exit.{Exit}
use Rattle.ranking.specs.Rankings.{Distinct}

-- the exit of one unit, before those of the units that follow
abbrev first_exit : ℕ → ℕ → Row → Option ℕ → List Exit → List Exit
first_exit top n u o rest = elim o [ None ↦ rest | Some price ↦ cond (leb price top) (leaving n u price ∷ rest) rest ]

-- a unit that left did so above a price
abbrev pub AboveAt : ℕ → Option ℕ → Type 0
AboveAt floor None = Unit {0}
AboveAt floor (Some price) = floor < price

abbrev pub Above : ℕ → Row → Type 0
Above floor u = AboveAt floor u.standing.exit

-- what holds of the exits of a round

pub exits_distinct : (top n : ℕ) (us : List Row) → Distinct (λ e. e.unit) (exits_up_to top n us)
exits_distinct top n [] = tt
exits_distinct top n (u ∷ us) =
    let rest = exits_distinct top (n + 1) us in
    exits_by top n u us (Distinct (λ e. e.unit)) rest
    (λ price le e. (All-weaker (λ x. (n + 1 ≤ x.unit) × (x.unit < n + 1 + length us)) (λ x. x.unit ≡ n → ⊥) (λ x range same. let least = range.0 in omega arith) (exits_up_to top (n + 1) us) (exits_numbered top (n + 1) us), rest))

above_some : (floor : ℕ) (o : Option ℕ) (price : ℕ) → o ≡ Some price → AboveAt floor o → floor < price
above_some floor o price e h = subst (AboveAt floor) e h

pub exits_least : (floor top n : ℕ) (us : List Row) → AllByRecursion (Above floor) us → AllByRecursion (λ e. floor ≤ e.price) (exits_up_to top n us)
exits_least floor top n [] all = tt
exits_least floor top n (u ∷ us) all =
    let rest = exits_least floor top (n + 1) us all.1 in
    exits_by top n u us (AllByRecursion (λ e. floor ≤ e.price)) rest
    (λ price le e. (let lt = above_some floor _ price e all.0 in omega arith, rest))

pub exits_large : (top n : ℕ) (us : List Row) → AllByRecursion (λ u. 1000 ≤ u.enrolled.capacity) us → AllByRecursion (λ e. 1 ≤ e.capacity) (exits_up_to top n us)
exits_large top n [] all = tt
exits_large top n (u ∷ us) all =
    let rest = exits_large top (n + 1) us all.1 in
    exits_by top n u us (AllByRecursion (λ e. 1 ≤ e.capacity)) rest (λ price le e. (let k = all.0 in omega arith, rest))

-- what is in and the exits are no more than what was enrolled
pub exits_room : (top n : ℕ) (us : List Row) → capacity_inside us + sum_by (λ e. e.capacity) (exits_up_to top n us) ≤ total_enrolled us
exits_room top n us = let out = exits_are_out top n us in let all = total_in_and_out us in omega arith

-- and back: what holds of the exits holds of the exit of each unit that left at a price of at most the cap

first_here : (top n : ℕ) (u : Row) (o : Option ℕ) (rest : List Exit) (P : Exit → Type 0) → AllByRecursion P (first_exit top n u o rest) → (price : ℕ) → o ≡ Some price → price ≤ top → P (leaving n u price)
first_here top n u o rest P all price e le =
    let is : first_exit top n u o rest ≡ leaving n u price ∷ rest = ap (λ (x : Option ℕ). first_exit top n u x rest) e ∙ cond-true (leb price top) _ _ (le-leb price top le) in
    (subst (AllByRecursion P) is all).0

first_rest : (top n : ℕ) (u : Row) (o : Option ℕ) (rest : List Exit) (P : Exit → Type 0) → AllByRecursion P (first_exit top n u o rest) → AllByRecursion P rest
first_rest top n u None rest P all = all
first_rest top n u (Some price) rest P all =
    cond_both (leb price top) (leaving n u price ∷ rest) rest (λ (es : List Exit). AllByRecursion P es → AllByRecursion P rest) (λ e x. x.1) (λ e x. x) all

pub exit_holds : (top n : ℕ) (us : List Row) (P : Exit → Type 0) → AllByRecursion P (exits_up_to top n us) → (i price : ℕ) → i < length us → (get_or us i no_unit).standing.exit ≡ Some price → price ≤ top → P (leaving (n + i) (get_or us i no_unit) price)
exit_holds top n [] P all i price lt e le = absurd (omega arith)
exit_holds top n (u ∷ us) P all zero price lt e le =
    let k : n ≡ n + 0 = omega arith in
    subst (λ (j : ℕ). P (leaving j u price)) k (first_here top n u u.standing.exit (exits_up_to top (n + 1) us) P all price e le)
exit_holds top n (u ∷ us) P all (suc i) price lt e le =
    let k : n + 1 + i ≡ n + suc i = omega arith in
    subst (λ (j : ℕ). P (leaving j (get_or us i no_unit) price)) k
    (exit_holds top (n + 1) us P (first_rest top n u u.standing.exit (exits_up_to top (n + 1) us) P all) i price (omega arith) e le)

-- changes of the units

pub exits_push : (top n : ℕ) (us : List Row) (u : Row) → u.standing.exit ≡ None → exits_up_to top n (us ++ u ∷ []) ≡ exits_up_to top n us
exits_push top n [] u e = ap (λ (o : Option ℕ). first_exit top n u o []) e
exits_push top n (v ∷ us) u e = ap (first_exit top n v v.standing.exit) (exits_push top (n + 1) us u e)

-- a unit that is in, with another standing in which it is in
pub exits_same : (top n : ℕ) (us : List Row) (i : ℕ) (u : Row) → (get_or us i no_unit).standing.exit ≡ None → u.standing.exit ≡ None → exits_up_to top n (set us i u) ≡ exits_up_to top n us
exits_same top n [] i u was is = refl
exits_same top n (v ∷ us) zero u was is =
    ap (λ (o : Option ℕ). first_exit top n u o (exits_up_to top (n + 1) us)) is ∙ sym (ap (λ (o : Option ℕ). first_exit top n v o (exits_up_to top (n + 1) us)) was)
exits_same top n (v ∷ us) (suc i) u was is = ap (first_exit top n v v.standing.exit) (exits_same top (n + 1) us i u was is)

-- all left above the cap
pub exits_none : (top n : ℕ) (us : List Row) → AllByRecursion (Above top) us → exits_up_to top n us ≡ []
exits_none top n [] all = refl
exits_none top n (u ∷ us) all = ap (first_exit top n u u.standing.exit) (exits_none top (n + 1) us all.1) ∙ none_first u.standing.exit all.0
  where
    none_first : (o : Option ℕ) → AboveAt top o → first_exit top n u o [] ≡ []
    none_first None h = refl
    none_first (Some price) h = cond-false (leb price top) _ _ (lt-leb price top h)

-- a unit leaves at a price of at most the cap
shuffled_first : (top n : ℕ) (v : Row) (o : Option ℕ) (x : Exit) (rest more : List Exit) → IsPermutation (x ∷ rest) more → IsPermutation (x ∷ first_exit top n v o rest) (first_exit top n v o more)
shuffled_first top n v None x rest more h = h
shuffled_first top n v (Some price) x rest more h =
    shuffled_cond (leb price top) (leaving n v price) x rest more h
  where
    shuffled_cond : (b : Bool) (y x : Exit) (rest more : List Exit) → IsPermutation (x ∷ rest) more → IsPermutation (x ∷ cond b (y ∷ rest) rest) (cond b (y ∷ more) more)
    shuffled_cond true y x rest more h = IsPermutation-trans _ _ _ (IsPermutation-swap (x ∷ y ∷ rest) (y ∷ x ∷ rest) 0 1 (omega arith) (omega arith) refl) (IsPermutation-cons y _ _ h)
    shuffled_cond false y x rest more h = h

pub exits_more : (top n : ℕ) (us : List Row) (i : ℕ) (u : Row) (price : ℕ) → i < length us → (get_or us i no_unit).standing.exit ≡ None → u.standing.exit ≡ Some price → price ≤ top → IsPermutation (leaving (n + i) u price ∷ exits_up_to top n us) (exits_up_to top n (set us i u))
exits_more top n [] i u price lt was is le = absurd (omega arith)
exits_more top n (v ∷ us) zero u price lt was is le =
    let rest : List Exit = exits_up_to top (n + 1) us in
    let before : exits_up_to top n (v ∷ us) ≡ rest = ap (λ (o : Option ℕ). first_exit top n v o rest) was in
    let now : exits_up_to top n (u ∷ us) ≡ leaving n u price ∷ rest = ap (λ (o : Option ℕ). first_exit top n u o rest) is ∙ cond-true (leb price top) _ _ (le-leb price top le) in
    let k : n + 0 ≡ n = omega arith in
    let same : leaving (n + 0) u price ∷ exits_up_to top n (v ∷ us) ≡ exits_up_to top n (u ∷ us) = ap (λ (j : ℕ). leaving j u price ∷ exits_up_to top n (v ∷ us)) k ∙ ap (λ (es : List Exit). leaving n u price ∷ es) before ∙ sym now in
    subst (IsPermutation (leaving (n + 0) u price ∷ exits_up_to top n (v ∷ us))) same (IsPermutation-refl _)
exits_more top n (v ∷ us) (suc i) u price lt was is le =
    let k : n + 1 + i ≡ n + suc i = omega arith in
    let more = exits_more top (n + 1) us i u price (omega arith) was is le in
    subst (λ (j : ℕ). IsPermutation (leaving j u price ∷ exits_up_to top n (v ∷ us)) (exits_up_to top n (v ∷ set us i u))) k
    (shuffled_first top n v v.standing.exit (leaving (n + 1 + i) u price) (exits_up_to top (n + 1) us) (exits_up_to top (n + 1) (set us i u)) more)

-- each of the exits is that of a unit that left
pub exits_true : (top n : ℕ) (us : List Row) (P : Exit → Type 0) → ((i price : ℕ) → i < length us → (get_or us i no_unit).standing.exit ≡ Some price → price ≤ top → P (leaving (n + i) (get_or us i no_unit) price)) → AllByRecursion P (exits_up_to top n us)
exits_true top n [] P each = tt
exits_true top n (u ∷ us) P each =
    let here : n + 0 ≡ n = omega arith in
    let rest = exits_true top (n + 1) us P
    (λ i price lt e le.
    let k : n + suc i ≡ n + 1 + i = omega arith in
    subst (λ (j : ℕ). P (leaving j (get_or us i no_unit) price)) k (each (suc i) price (omega arith) e le)) in
    exits_by top n u us (AllByRecursion P) rest (λ price le e. (subst (λ (j : ℕ). P (leaving j u price)) here (each 0 price (omega arith) e le), rest))
