-- The laws over every list of calls.
use Rattle.auction.proofs.Promised.{laws_over_calls}
use Rattle.auction.proofs.laws.laws_hold.Goals as goal

pub returns : goal.returns
returns c = laws_over_calls
