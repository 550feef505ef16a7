use Rattle.std.proofs.Common.{drop}
use Rattle.curve.specs.Reaches.{Reaching}
use Rattle.curve.proofs.cornered.Cornered.reach.Given as goal

abbrev pub invariant-loop-corner : goal.invariant-loop-corner
invariant-loop-corner g l = Reaching g.S.Form.SHAPE l.price l.self.corners.items l.last (drop l.corner-index l.self.corners.items)
