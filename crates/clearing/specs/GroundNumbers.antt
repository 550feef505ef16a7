-- The numbers of the grounds. Assumes nothing.
use Rattle.std.specs.Prelude.{ℕ}
use Rattle.clearing.specs.declared.ground.Ground.{Ground}
use Rattle.clearing.specs.declared.ground.Ground.TheVariants.{FloorExact, ExitExact, AllFit, NextTaken, NextLeft}

-- a ground is the reason why a clearing round stops where it does
abbrev pub ground_number : Ground → ℕ
ground_number FloorExact = 1
ground_number ExitExact = 2
ground_number AllFit = 3
ground_number NextTaken = 4
ground_number NextLeft = 5
