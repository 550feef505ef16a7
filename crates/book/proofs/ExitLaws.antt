-- Laws of the exits up to a cap: how many they are, their prices, and their capacity. Assumes nothing.
use Rattle.std.proofs.Common.{◌≡◌, ℕ, ◌+◌, ◌<◌, ◌≤◌, true, cond, leb, List, [], ◌∷◌, length, Some, None, sum_by, Option, refl, ap, arith}
use Rattle.std.specs.List.{AllByRecursion}
use Rattle.std.proofs.lemmas.List.Sums.{sum_by-cons}
use Rattle.std.proofs.lemmas.Bool.{cond_both, leb-true}
use Rattle.book.specs.declared.unit.Unit.{Unit as Row}
use Rattle.book.specs.Books.{Books, capacity_inside, leaving, exits_up_to}
use Rattle.book.specs.Exits.{out_kw, capacity_out}
use Rattle.book.specs.Lawful.{lawful_units, lawful}
use Rattle.book.proofs.ModelLaws.{total_in_and_out}
use Rattle.book.proofs.Rules.{lawful_keeps, unit_capacity, first_lawful, rest_lawful}
use Rattle.curve.specs.Meaning.{ceiling}
use Rattle.ranking.specs.declared.exits.Exit.{Exit as Leaving}

-- the unit n is an exit, or the exits are those of the units after it
pub exits_by : (top n : ℕ) (u : Row) (us : List Row) (P : List Leaving → Type 0) → P (exits_up_to top (n + 1) us) → ((price : ℕ) → price ≤ top → u.standing.exit ≡ Some price → P (leaving n u price ∷ exits_up_to top (n + 1) us)) → P (exits_up_to top n (u ∷ us))
exits_by top n u us P none some = cases u.standing.exit refl
  where
    cases : (o : Option ℕ) → u.standing.exit ≡ o → P (elim o [ None ↦ exits_up_to top (n + 1) us | Some price ↦ cond (leb price top) (leaving n u price ∷ exits_up_to top (n + 1) us) (exits_up_to top (n + 1) us) ])
    cases None e = none
    cases (Some price) e = cond_both (leb price top) _ _ P (λ below. some price (leb-true _ _ below) e) (λ above. none)

pub exits_few : (top n : ℕ) (us : List Row) → length (exits_up_to top n us) ≤ length us
exits_few top n [] = omega arith
exits_few top n (u ∷ us) =
    let rest = exits_few top (n + 1) us in
    exits_by top n u us (λ (es : List Leaving). length es ≤ length (u ∷ us)) (omega arith) (λ price below e. omega arith)

pub exits_priced : (top n : ℕ) (us : List Row) → AllByRecursion (λ (e : Leaving). e.price ≤ top) (exits_up_to top n us)
exits_priced top n [] = tt
exits_priced top n (u ∷ us) =
    let rest = exits_priced top (n + 1) us in
    exits_by top n u us (λ (es : List Leaving). AllByRecursion (λ (e : Leaving). e.price ≤ top) es) rest (λ price below e. (below, rest))

-- they are of units that exist
pub exits_numbered : (top n : ℕ) (us : List Row) → AllByRecursion (λ (e : Leaving). (n ≤ e.unit) × (e.unit < n + length us)) (exits_up_to top n us)
exits_numbered top n us = within top n n (n + length us) us (omega arith) (omega arith)
  where
    within : (top n from to : ℕ) (us : List Row) → from ≤ n → n + length us ≤ to → AllByRecursion (λ (e : Leaving). (from ≤ e.unit) × (e.unit < to)) (exits_up_to top n us)
    within top n from to [] low high = tt
    within top n from to (u ∷ us) low high =
        let rest = within top (n + 1) from to us (omega arith) (omega arith) in
        exits_by top n u us (λ (es : List Leaving). AllByRecursion (λ (e : Leaving). (from ≤ e.unit) × (e.unit < to)) es) rest (λ price below e. ((low, omega arith), rest))

pub exits_large : (top n : ℕ) (us : List Row) → lawful_units us ≡ true → AllByRecursion (λ (e : Leaving). 1000 ≤ e.capacity) (exits_up_to top n us)
exits_large top n [] h = tt
exits_large top n (u ∷ us) h =
    let rest = exits_large top (n + 1) us (rest_lawful u us h) in
    exits_by top n u us (λ (es : List Leaving). AllByRecursion (λ (e : Leaving). 1000 ≤ e.capacity) es) rest (λ price below e. ((unit_capacity u (first_lawful u us h)).0, rest))

out_whole : (u : Row) (price : ℕ) → u.standing.exit ≡ Some price → out_kw u ≡ u.enrolled.capacity
out_whole u price e = ap (λ (o : Option ℕ). elim o [ None ↦ 0 | Some p ↦ u.enrolled.capacity ]) e

-- what the exits have is out
pub exits_are_out : (top n : ℕ) (us : List Row) → sum_by (λ (e : Leaving). e.capacity) (exits_up_to top n us) ≤ capacity_out us
exits_are_out top n [] = omega arith
exits_are_out top n (u ∷ us) =
    let rest = exits_are_out top (n + 1) us in
    exits_by top n u us (λ (es : List Leaving). sum_by (λ (e : Leaving). e.capacity) es ≤ capacity_out (u ∷ us)) (omega arith) (λ price below e. let whole = out_whole u price e in let more = sum_by-cons (λ (x : Leaving). x.capacity) (leaving n u price) (exits_up_to top (n + 1) us) in omega arith)

-- what is in and what the exits have is at most the ceiling
pub in_and_exits : (b : Books) (top n : ℕ) → lawful b ≡ true → capacity_inside b.units + sum_by (λ (e : Leaving). e.capacity) (exits_up_to top n b.units) ≤ ceiling
in_and_exits b top n h =
    let total = (lawful_keeps b h).total in
    let both = total_in_and_out b.units in
    let out = exits_are_out top n b.units in
    omega arith
