use Rattle.std.proofs.Common.{◌≡◌, ◌≤◌, ◌++◌, length, drop}
use Rattle.book.specs.Books.{exits_up_to}
use Rattle.book.specs.Views.{books}
use Rattle.auction.proofs.auction.Auction.put_exits.Given as goal

-- behind the exits found so far, those of the units to come make up the exits of the round
abbrev pub invariant-loop-i : goal.invariant-loop-i
invariant-loop-i g l =
    (length l.exits.items ≤ l.i)
    × (l.exits.items ++ exits_up_to l.self.top l.i (drop l.i (books l.self.book).units) ≡ exits_up_to l.self.top 0 (books l.self.book).units)
