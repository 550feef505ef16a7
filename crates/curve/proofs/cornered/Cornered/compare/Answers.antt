use Rattle.std.proofs.Common.{w64, SFits}
use mir.Syntax.{w128}
use Rattle.std.proofs.lemmas.Int.{to_z-of_z}
use Rattle.curve.specs.Outline.{origin, sides, widths, column, sum_to}
use Rattle.curve.specs.Columns.{widths_some}
use Rattle.curve.proofs.Compared.{areas_compared}
use Rattle.curve.specs.Falling.{walking_start}
use Rattle.curve.specs.SumsTo.{sum_grows}
use Rattle.curve.proofs.cornered.Cornered.compare.Goals as goal

pub returns : goal.returns
returns g c =
    let shape = g.S.Form.SHAPE in
    let corners = c.args.self.now.corners.items in
    let ss = sides shape corners in
    let some = widths_some (origin corners).quantity (origin corners).price ss (walking_start shape corners c.args.self.now.fit).falling in
    let low = c.measure-low.result in
    let high = c.measure-high.result in
    let areas = sum_grows (column ss) c.args.from c.args.to c.requires.0 in
    let gap : SFits w128 c.gap.result = record { sfits = c.gap.type_inv } in
    let goal : SFits w128 c.goal.result = record { sfits = c.goal.type_inv } in
    let sum = to_z-of_z w64 c.args.sum c.ranges.sum in
    let same = areas_compared low.parts high.parts low.width high.width (sum_to (column ss) c.args.from) (sum_to (column ss) c.args.to) (widths ss) c.args.sum
    low.some high.some some c.measure-low.ensures c.measure-high.ensures areas in
    let left = to_z-of_z w128 c.gap.result gap in
    let right = to_z-of_z w128 c.goal.result goal in
    cc
