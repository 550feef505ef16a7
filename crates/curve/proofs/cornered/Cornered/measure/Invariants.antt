use Rattle.std.proofs.Common.{drop}
use Rattle.curve.proofs.Measuring.{Walked}
use Rattle.curve.proofs.cornered.Cornered.measure.Given as goal

abbrev pub invariant-loop-corner : goal.invariant-loop-corner
invariant-loop-corner g l = Walked g.S.Form.SHAPE l.self.corners.items l.place l.twice l.last (drop l.corner-index l.self.corners.items)
