use Rattle.std.proofs.Common.{sym, subst}
use Rattle.curve.specs.declared.corner.Corner.{Corner}
use Rattle.curve.specs.Reaches.{Reaching, reaching_start}
use Rattle.curve.proofs.cornered.Cornered.reach.Goals as goal

pub loop-corner-init : goal.loop-corner-init
loop-corner-init g c =
    subst (λ (o : Corner). Reaching g.S.Form.SHAPE c.args.price c.args.self.now.corners.items o c.args.self.now.corners.items) (sym c.origin-last.ensures)
    (reaching_start g.S.Form.SHAPE c.args.price c.args.self.now.corners.items c.args.self.now.fit)
