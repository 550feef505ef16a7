-- Which side of the market a number names. Assumes nothing.
use Rattle.std.specs.Prelude.{ℕ, cond, Some, None, Option, ◌==◌}
use Rattle.book.specs.declared.class.Side.{Side}
use Rattle.book.specs.declared.class.Side.TheVariants.{Taker, Maker}

abbrev pub side_of : ℕ → Option Side
side_of n = cond (n == 0) (Some Taker) (cond (n == 1) (Some Maker) None)
