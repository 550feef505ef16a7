use Rattle.curve.proofs.DemandWords.{words}
use Rattle.curve.proofs.demand.words_hold.Goals as goal

pub returns : goal.returns
returns g c = words _ (g.met.C.Curve.keeps c.args.curve.now)
