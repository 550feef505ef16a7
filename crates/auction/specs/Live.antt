-- The clock that an auction stands at. Assumes nothing.
use Rattle.auction.specs.declared.clocks.Stage.{Stage}
use Rattle.auction.specs.declared.clocks.Stage.TheVariants as stage
use Rattle.auction.specs.declared.clocks.Stamp.{Stamp}
use Rattle.auction.specs.declared.live.Live.{Live}
use Rattle.auction.specs.declared.live.Live.TheVariants.{Enrolling, Open, Shut, Settled}

-- its stage and its numbers
abbrev pub live_clock : Live → Stage × Stamp
live_clock (Enrolling c) = (stage.Enrolling, c.stamp)
live_clock (Open c) = (stage.Open, c.stamp)
live_clock (Shut c) = (stage.Shut, c.stamp)
live_clock (Settled c) = (stage.Settled, c.stamp)
