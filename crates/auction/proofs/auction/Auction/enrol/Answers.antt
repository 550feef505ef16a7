use Rattle.book.specs.Views.{books}
use Rattle.auction.proofs.Above.{above_with_unit}
use Rattle.auction.proofs.auction.Auction.enrol.Goals as goal

pub invariant_of-self-clause-above : goal.invariant_of-self-clause-above
invariant_of-self-clause-above g c =
    let was = c.args.self.now in above_with_unit _ (books was.book) _ c.args.application.now c.enrol.ensures.book was.above
