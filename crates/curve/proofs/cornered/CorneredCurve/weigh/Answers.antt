use Rattle.curve.specs.OutlineLaws.{curve_area}
use Rattle.curve.proofs.cornered.CorneredCurve.weigh.Goals as goal

pub returns-clause-area : goal.returns-clause-area
returns-clause-area g c = curve_area g.S.Form.SHAPE c.args.self.now.corners.items c.args.self.now.fit

pub returns-then-from-to-clause-area : goal.returns-then-from-to-clause-area
returns-then-from-to-clause-area g c = curve_area g.S.Form.SHAPE c.args.self.now.corners.items c.args.self.now.fit
