use Rattle.std.proofs.Common.{◌≡◌, ◌*◌, pos, mul-le-mul, arith}
use Rattle.curve.proofs.Compared.{goal_is}
use Rattle.curve.proofs.area.Area.goal.Goals as goal

pub returns : goal.returns
returns c =
    let m = mul-le-mul c.args.self.narrow c.args.high.narrow in
    let times : c.from-2.result ≡ pos (2 * (c.args.self.width * c.args.high.width)) = cc in
    goal_is c.args.sum c.from.result c.from-2.result (2 * (c.args.self.width * c.args.high.width)) c.ranges.sum c.from.ensures times (omega arith)
