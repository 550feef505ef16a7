use Rattle.clearing.specs.Finding.{outcome_of}
use Rattle.clearing.proofs.ClearedRounds.{holds, only, near, awards, gains}
use Rattle.clearing.proofs.settling.clear.Goals as goal

pub returns : goal.returns
unfolding outcome_of
returns g c =
    let laws = g.met.C.Curve.keeps c.args.curve.now in
    let ok = c.args.round.clearable in
    let h = holds _ laws _ _ _ ok _ c.find_outcome.ensures in
    record {
      value = c.find_outcome.ensures;
      holds = h;
      only = only _ laws _ _ _ ok _ c.find_outcome.ensures;
      near = near _ laws _ _ _ ok _ h;
      awards = awards _ laws _ _ _ ok _ h;
      best = gains _ laws _ _ _ ok _ h;
    }
