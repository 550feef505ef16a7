-- What the end of a round makes of an auction. Assumes nothing.
use Rattle.std.specs.Prelude.{cond}
use Rattle.auction.specs.declared.calls.Answer.{Answer}
use Rattle.auction.specs.declared.calls.Answer.TheVariants.{ClosedShut, ClosedSettled}
use Rattle.auction.specs.declared.clocks.Stage.TheVariants.{Shut, Settled}
use Rattle.auction.specs.State.{State, floor_of, in_of, stamp_of}
use Rattle.auction.specs.Steps.{moved_to, figures_of}
use Rattle.book.specs.Books.{closed_book}
use Rattle.curve.specs.Words.{within}

-- the round clears and the auction is settled, or the entries are out of reach and the round is shut
abbrev pub ended_round : State → State × Answer
ended_round s =
    cond (within s.curve (floor_of s) (in_of s))
    (moved_to s Settled s.round s.top s.book, ClosedSettled (figures_of s) (stamp_of s))
    (moved_to s Shut s.round s.top (closed_book s.book), ClosedShut (figures_of s) (stamp_of s))
