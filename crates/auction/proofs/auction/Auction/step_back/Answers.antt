use Rattle.book.specs.Views.{books}
use Rattle.auction.proofs.Above.{above_stepped_back}
use Rattle.auction.proofs.auction.Auction.step_back.Goals as goal

pub invariant_of-self-clause-above : goal.invariant_of-self-clause-above
invariant_of-self-clause-above g c =
    let was = c.args.self.now in above_stepped_back _ (books was.book) _ c.step_back.ensures was.above
