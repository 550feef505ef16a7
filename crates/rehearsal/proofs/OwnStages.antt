-- A session's clock is its auction's own, and so of the auction's stage.
use Rattle.std.proofs.Common.{◌≡◌}
use Rattle.auction.specs.declared.clocks.Stage.TheVariants as stage
use Rattle.rehearsal.specs.Chosen.{auction_state}
use Rattle.rehearsal.specs.declared.stages.Session.{Session}
use Rattle.rehearsal.specs.declared.stages.Session.TheVariants.{Enrolling, Open, Shut, Settled}
use Rattle.rehearsal.specs.Sessions.{session_state, session_stage}
use Rattle.rehearsal.proofs.Clocks.{own_stage}

pub stage_is : (x : Session) → (session_state x).stage ≡ session_stage x
stage_is (Enrolling e) = own_stage (auction_state e.auction) stage.Enrolling e.clock.stamp e.own
stage_is (Open o) = own_stage (auction_state o.auction) stage.Open o.clock.stamp o.own
stage_is (Shut o) = own_stage (auction_state o.auction) stage.Shut o.clock.stamp o.own
stage_is (Settled d) = own_stage (auction_state d.auction) stage.Settled d.clock.stamp d.own
