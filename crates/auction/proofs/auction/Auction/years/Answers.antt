use Rattle.book.specs.Views.{books}
use Rattle.auction.proofs.Above.{above_with_years}
use Rattle.auction.proofs.auction.Auction.years.Goals as goal

pub invariant_of-self-clause-above : goal.invariant_of-self-clause-above
invariant_of-self-clause-above g c =
    let was = c.args.self.now in above_with_years _ (books was.book) _ c.args.unit c.args.years c.serve.ensures was.above
