use Rattle.std.proofs.Common.{◌≡◌, drop}
use Rattle.book.specs.Asked.{named}
use Rattle.book.proofs.book.Book.is_named.Given as goal

abbrev pub invariant-loop-unit : goal.invariant-loop-unit
invariant-loop-unit l = named (drop l.unit-index l.initial.unit-items) l.name ≡ named l.initial.unit-items l.name
