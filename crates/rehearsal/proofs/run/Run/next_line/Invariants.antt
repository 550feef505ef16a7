use Rattle.std.proofs.Common.{◌≡◌}
use Rattle.rehearsal.specs.Left.{lines_left, steps_left}
use Rattle.rehearsal.proofs.run.Run.next_line.Given as goal

abbrev pub invariant-loop-line : goal.invariant-loop-line
invariant-loop-line l = lines_left l.self ≡ lines_left l.initial.self

abbrev pub decreases-loop-line : goal.decreases-loop-line
decreases-loop-line l = steps_left l.self
