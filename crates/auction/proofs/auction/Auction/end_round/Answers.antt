use Rattle.book.specs.Views.{books}
use Rattle.auction.proofs.Above.{above_closed}
use Rattle.auction.proofs.Floors.{shut_has_floor}
use Rattle.auction.proofs.auction.Auction.end_round.Goals as goal

pub invariant_of-self-2-clause-left : goal.invariant_of-self-2-clause-left
invariant_of-self-2-clause-left g c =
    let was = c.args.self.now in
    shut_has_floor _ (g.met.C.Curve.keeps was.curve) _ (books was.book) _ was.book.kept c.clears.ensures c.if-clears.false

pub invariant_of-self-2-clause-above : goal.invariant_of-self-2-clause-above
invariant_of-self-2-clause-above g c =
    let was = c.args.self.now in above_closed _ (books was.book) _ c.close.ensures was.above
