-- What every auction keeps true: its exit prices lie above the floor, and a round can follow a shut one. Assumes nothing.
use Rattle.std.specs.Prelude.{ℕ, Bool, true, ◌&&◌, List, [], ◌∷◌, Some, None, nat_lt}
use Rattle.auction.specs.declared.clocks.Stage.{Stage}
use Rattle.auction.specs.declared.clocks.Stage.TheVariants.{Enrolling, Open, Shut, Settled}
use Rattle.book.specs.Books.{Books}
use Rattle.book.specs.declared.entry.Entry.{Entry}
use Rattle.book.specs.declared.unit.Standing.{Standing}
use Rattle.book.specs.declared.unit.Unit.{Unit as Row}

-- the exit price, if there is one, is above the floor
abbrev pub price_above : ℕ → Standing → Bool
price_above floor s = elim s.exit [ None ↦ true | Some price ↦ nat_lt floor price ]

unfoldable pub exits_above : ℕ → List Row → Bool
exits_above floor [] = true
exits_above floor (u ∷ us) = price_above floor u.standing && exits_above floor us

-- the same of how the units stood before this round's entries
unfoldable pub formers_above : ℕ → List Entry → Bool
formers_above floor [] = true
formers_above floor (e ∷ es) = price_above floor e.former && formers_above floor es

unfoldable pub book_above : ℕ → Books → Bool
book_above floor b = exits_above floor b.units && formers_above floor b.entries

-- a round that did not clear has a floor above 0, so that another can follow it
abbrev pub shut_above : Stage → ℕ → Bool
shut_above Enrolling floor = true
shut_above Open floor = true
shut_above Shut floor = nat_lt 0 floor
shut_above Settled floor = true
