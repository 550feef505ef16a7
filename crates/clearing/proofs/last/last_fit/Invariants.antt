use Rattle.std.proofs.Common.{drop}
use Rattle.clearing.specs.Finding.{last_place}
use Rattle.clearing.specs.Places.{first_place}
use Rattle.clearing.proofs.Walk.{Walking}
use Rattle.clearing.proofs.last.last_fit.Given as goal

abbrev pub invariant-loop-exit : goal.invariant-loop-exit
invariant-loop-exit g l =
    Walking (g.C.Curve.meaning l.curve)
    (last_place (g.C.Curve.meaning l.curve) (first_place l.round.floor l.round.capacity_in) l.round.exits.now)
    l.last l.exit-index (drop l.exit-index l.round.exits.now)
