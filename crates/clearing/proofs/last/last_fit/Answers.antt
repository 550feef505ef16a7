use Rattle.std.proofs.Common.{sym}
use Rattle.clearing.proofs.Walk.{walking_next}
use Rattle.clearing.proofs.last.last_fit.Goals as goal

pub loop-exit-preserved : goal.loop-exit-preserved
loop-exit-preserved g c =
    walking_next _ _ _ _ _ _ _ c.loop-exit-test.true c.loop-exit.invariant c.after-next.ensures (sym c.if-not-is_within.ensures.value)
