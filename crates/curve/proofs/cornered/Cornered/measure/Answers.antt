use Rattle.std.proofs.Common.{sym, subst}
use Rattle.curve.specs.declared.corner.Corner.{Corner}
use Rattle.curve.proofs.Measuring.{Walked, walked_start, walked_next, walked_here, walked_past}
use Rattle.curve.proofs.NextCorner.{next_corner, no_corner}
use Rattle.curve.proofs.cornered.Cornered.measure.Goals as goal

pub loop-corner-init : goal.loop-corner-init
loop-corner-init g c =
    subst (λ (o : Corner). Walked g.S.Form.SHAPE c.args.self.now.corners.items c.args.place 0 o c.args.self.now.corners.items) (sym c.origin-last.ensures)
    (walked_start g.S.Form.SHAPE c.args.self.now.corners.items c.args.place c.args.self.now.fit)

pub returns-then-place-side : goal.returns-then-place-side
returns-then-place-side g c =
    let w = next_corner (Walked g.S.Form.SHAPE c.args.self.now.corners.items c.args.place c.loop-corner.twice c.loop-corner.last) c.deref-corner-items.ensures.value _ c.loop-corner-test.true c.loop-corner.invariant in
    walked_here _ _ _ _ _ _ _ w c.between-side.result c.between-side.ensures c.area.result c.if-place-side.true
    c.area.ensures.width c.area.ensures.parts

pub loop-corner-preserved : goal.loop-corner-preserved
loop-corner-preserved g c =
    let w = next_corner (Walked g.S.Form.SHAPE c.args.self.now.corners.items c.args.place c.loop-corner.twice c.loop-corner.last) c.deref-corner-items.ensures.value _ c.loop-corner-test.true c.loop-corner.invariant in
    walked_next _ _ _ _ _ _ _ w c.between-side.result c.between-side.ensures _ c.twice_area-twice.ensures.value c.if-place-side.false

pub returns : goal.returns
returns g c =
    let w = no_corner (Walked g.S.Form.SHAPE c.args.self.now.corners.items c.args.place c.loop-corner.twice c.loop-corner.last) c.deref-corner-items.ensures.value _ c.loop-corner-test.false c.loop-corner.invariant in
    let past = walked_past _ _ _ _ _ w in
    cc
