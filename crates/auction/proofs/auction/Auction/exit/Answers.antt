use Rattle.auction.specs.Views.{state}
use Rattle.book.specs.Views.{books}
use Rattle.auction.proofs.Above.{above_with_exit, exit_price_above}
use Rattle.auction.proofs.auction.Auction.exit.Goals as goal

pub invariant_of-self-clause-above : goal.invariant_of-self-clause-above
invariant_of-self-clause-above g c =
    let was = c.args.self.now in
    let lt = exit_price_above (state g.C.Curve.meaning g.O.Order.ahead was) c.terms.result (books was.book) c.args.unit c.args.price c.terms.ensures c.in_ok-exit_questions.ensures in
    above_with_exit _ (books was.book) _ c.args.unit c.args.price c.put_out.ensures lt was.above
