use Rattle.std.proofs.Common.{List, arith}
use Rattle.std.proofs.lemmas.List.{at_drop_more, at_drop_all}
use Rattle.std.proofs.lemmas.Bool.Decides.{nat_tests}
use Rattle.book.specs.declared.unit.Unit.{Unit as Row}
use Rattle.book.specs.Asked.{named}
use Rattle.book.proofs.ModelLaws.{unread}
use Rattle.book.proofs.book.Book.is_named.Goals as goal

pub returns-then-is_named : goal.returns-then-is_named
returns-then-is_named c =
    let e = at_drop_more (λ (us : List Row). named us c.args.name) c.units-unit-items.result.now c.loop-unit.unit-index unread (omega arith) in
    let value = c.units-unit-items.ensures in
    grind (arith, nat_tests)

pub loop-unit-preserved : goal.loop-unit-preserved
loop-unit-preserved c =
    let e = at_drop_more (λ (us : List Row). named us c.args.name) c.units-unit-items.result.now c.loop-unit.unit-index unread (omega arith) in
    grind (arith, nat_tests)

pub returns : goal.returns
returns c =
    let e = at_drop_all (λ (us : List Row). named us c.args.name) c.units-unit-items.result.now c.loop-unit.unit-index (omega arith) in
    let value = c.units-unit-items.ensures in
    grind (arith, nat_tests)
