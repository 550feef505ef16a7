use Rattle.std.proofs.Common.{w64, SFits, rules}
use Rattle.std.proofs.lemmas.Int.{to_z-of_z}
use Rattle.clearing.proofs.Signs.{told_weighed}
use Rattle.clearing.proofs.margin.Margin.weigh.Goals as goal

pub returns : goal.returns
returns g c =
    let fits : SFits w64 c.dearer_by.result = search rules in
    told_weighed (g.C.Curve.meaning c.args.curve.now) c.args.self.last c.args.self.next c.unwrap.result c.dearer_by.result c.dearer_by.ensures (simp to_z-of_z at (rw c.unwrap.ensures at c.weigh.ensures.weighed.1))
