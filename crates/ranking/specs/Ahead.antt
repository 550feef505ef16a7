-- Who is ahead, for each order of the crate.
use Rattle.std.specs.Prelude.{ℕ, Bool, true, false, cond, List, [], ◌∷◌, ◌==◌, nat_lt}
use Rattle.ranking.specs.declared.exits.Exit.{Exit}
use Rattle.ranking.specs.declared.roll.RollRow.{RollRow}

-- the lower number is ahead; of equal numbers `ties` decides
abbrev pub lower_first : ℕ → ℕ → Bool → Bool
lower_first m n ties = cond (m == n) ties (nat_lt m n)

-- the larger number is ahead; of equal numbers `ties` decides
abbrev pub larger_first : ℕ → ℕ → Bool → Bool
larger_first m n ties = lower_first n m ties

-- at the first byte that differs the lower is ahead; of equal names `ties` decides
-- (all names have eight bytes; were one of them the start of the other, it would be ahead)
abbrev pub name_first : List ℕ → List ℕ → Bool → Bool
name_first [] [] ties = ties
name_first [] (y ∷ ys) ties = true
name_first (x ∷ xs) [] ties = false
name_first (x ∷ xs) (y ∷ ys) ties = lower_first x y (name_first xs ys ties)

-- ties by rule: larger capacity, then fewer years, then lower random number, then lower unit number
abbrev pub rule_ahead : Exit → Exit → Bool
rule_ahead a b =
    larger_first a.capacity b.capacity
    (lower_first a.years b.years
    (lower_first a.random b.random
    (nat_lt a.unit b.unit)))

-- by name, then lower unit number
abbrev pub by_name : {X : Type 0} → (X → ℕ) → (X → List ℕ) → X → X → Bool
by_name unit name a b = name_first (name a) (name b) (nat_lt (unit a) (unit b))

-- ties by name
abbrev pub name_ahead : Exit → Exit → Bool
name_ahead = by_name (λ e. e.unit) (λ e. e.name)

-- the exit ranking over a tie order: lower exit price, then as the tie order says
abbrev pub price_ahead : (Exit → Exit → Bool) → Exit → Exit → Bool
price_ahead ties a b = lower_first a.price b.price (ties a b)

-- the order of the roll: by name
abbrev pub roll_ahead : RollRow → RollRow → Bool
roll_ahead = by_name (λ row. row.unit) (λ row. row.name)
