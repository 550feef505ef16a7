use Rattle.std.proofs.Common.{length, ap, arith}
use Rattle.auction.specs.Views.{state}
use Rattle.book.specs.Views.{books}
use Rattle.book.proofs.Rules.{lawful_keeps}
use Rattle.auction.proofs.Gathers.{exits_ranked}
use Rattle.auction.proofs.auction.Auction.put_exits.Goals as goal

pub push-requires : goal.push-requires
push-requires g c =
    let few = (lawful_keeps (books c.args.self.now.book) c.args.self.now.book.kept).few_units in
    let same = ap length c.units-unit-items.ensures in
    omega arith

pub returns : goal.returns
returns g c =
    exits_ranked (state g.C.Curve.meaning g.O.Order.ahead c.args.self.now) _ c.loop-i.i _ _ c.units-unit-items.ensures (omega arith) c.loop-i.invariant.1 c.rank_items.ensures
