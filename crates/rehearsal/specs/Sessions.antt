-- The auction of a run by its stage. Assumes nothing.
use Rattle.std.specs.Prelude.{Bool, true, false}
use Rattle.auction.specs.declared.clocks.Stage.{Stage}
use Rattle.auction.specs.declared.clocks.Stage.TheVariants as stage
use Rattle.auction.specs.State.{State}
use Rattle.rehearsal.specs.Chosen.{auction_state}
use Rattle.rehearsal.specs.declared.stages.Session.{Session}
use Rattle.rehearsal.specs.declared.stages.Session.TheVariants.{Enrolling, Open, Shut, Settled}

abbrev pub session_state : Session → State
session_state (Enrolling e) = auction_state e.auction
session_state (Open o) = auction_state o.auction
session_state (Shut o) = auction_state o.auction
session_state (Settled d) = auction_state d.auction

-- the stage that its clock is of
abbrev pub session_stage : Session → Stage
session_stage (Enrolling e) = stage.Enrolling
session_stage (Open o) = stage.Open
session_stage (Shut o) = stage.Shut
session_stage (Settled d) = stage.Settled

-- a round that was shut is followed by the next at once
abbrev pub unshut : Stage → Bool
unshut stage.Enrolling = true
unshut stage.Open = true
unshut stage.Shut = false
unshut stage.Settled = true
