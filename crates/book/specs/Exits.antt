-- The exit of one unit, and the capacity that is out. Assumes nothing.
use Rattle.std.specs.Prelude.{ℕ, ◌+◌, cond, List, [], ◌∷◌, Some, None, Option, nat_le}
use Rattle.book.specs.declared.unit.Unit.{Unit as Row}
use Rattle.book.specs.Books.{leaving}
use Rattle.ranking.specs.declared.exits.Exit.{Exit as Leaving}

-- the exit of the unit n, if it left at a price of at most the cap
abbrev pub exit_up_to : ℕ → ℕ → Row → Option Leaving
exit_up_to top n u =
    elim u.standing.exit [ None ↦ None | Some price ↦ cond (nat_le price top) (Some (leaving n u price)) None ]

-- the capacity of a unit that is out, and the sum of these
abbrev pub out_kw : Row → ℕ
out_kw u = elim u.standing.exit [ None ↦ 0 | Some price ↦ u.enrolled.capacity ]

abbrev pub capacity_out : List Row → ℕ
capacity_out [] = 0
capacity_out (u ∷ us) = out_kw u + capacity_out us
