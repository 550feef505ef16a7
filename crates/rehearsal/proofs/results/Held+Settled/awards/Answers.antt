use Rattle.std.proofs.Common.{List, replicate, arith}
use Rattle.std.proofs.lemmas.List.{length-replicate}
use Rattle.book.specs.Views.{books}
use Rattle.ranking.specs.declared.roll.RollRow.{RollRow}
use Rattle.rehearsal.specs.Chosen.{auction_state}
use Rattle.rehearsal.proofs.RollRows.{lawful_units_few, roll_accepted}
use Rattle.rehearsal.proofs.results.Held+Settled.awards.Goals as goal

pub unwrap-count-requires : goal.unwrap-count-requires
unwrap-count-requires c =
    let was = c.args.self.now in
    let rows : List RollRow = replicate 512 c.default-rows.result in
    let few = lawful_units_few (books was.auction.book) was.auction.book.kept in
    let long = length-replicate 512 c.default-rows.result in
    roll_accepted c.roll.result (auction_state was.auction) was.clock.stamp rows _ was.own c.roll.ensures (omega arith)
