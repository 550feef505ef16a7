use Rattle.std.proofs.Common.{◌∙◌}
use Rattle.auction.specs.Views.{state}
use Rattle.auction.proofs.Rounds.{found_clearable}
use Rattle.auction.proofs.auction.Auction.settled.Goals as goal

pub invariant_of-round : goal.invariant_of-round
invariant_of-round g c =
    let was = c.args.self.now in
    record { clearable = found_clearable (state g.C.Curve.meaning g.O.Order.ahead was) (g.met.O.Order.laws was.order.ties) was.low was.book.kept was.above _ _ _ c.floor.ensures c.capacity_in.ensures (c.as_slice.ensures.value ∙ c.put_exits.ensures) }
