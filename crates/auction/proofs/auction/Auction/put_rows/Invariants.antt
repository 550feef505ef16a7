use Rattle.std.proofs.Common.{◌≡◌, ◌≤◌, ◌++◌, length, drop}
use Rattle.auction.specs.Rolls.{rows_of}
use Rattle.auction.specs.Views.{state}
use Rattle.book.specs.Views.{books}
use Rattle.auction.proofs.auction.Auction.put_rows.Given as goal

-- behind the rows found so far, those of the units to come make up the rows of the roll
abbrev pub invariant-loop-unit : goal.invariant-loop-unit
invariant-loop-unit g l =
    (length l.rows.items ≤ l.unit)
    × (l.rows.items ++ rows_of (state g.C.Curve.meaning g.O.Order.ahead l.self) l.settlement l.unit (drop l.unit (books l.self.book).units) ≡ rows_of (state g.C.Curve.meaning g.O.Order.ahead l.self) l.settlement 0 (books l.self.book).units)
