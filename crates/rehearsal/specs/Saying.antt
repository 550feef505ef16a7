-- What is printed of calls, as the code gives it out. Assumes nothing.
use Rattle.std.specs.Prelude.{ℕ, List, [], ◌∷◌, ◌++◌, Some, None, Ok, Err, Option, Result}
use Rattle.std.specs.Option.{option_to_list}
use Rattle.auction.specs.declared.calls.Answer.{Answer}
use Rattle.auction.specs.declared.calls.Answer.TheVariants.{Refused, Enrolled, Begun, Entered, SteppedBack, ClosedShut, ClosedSettled, Opened}
use Rattle.auction.specs.declared.clocks.Stage.{Stage}
use Rattle.auction.specs.declared.clocks.Stage.TheVariants as stage
use Rattle.auction.specs.declared.refusal.Refusal.{Refusal}
use Rattle.auction.specs.State.{State}
use Rattle.auction.specs.Steps.{auction_question}
use Rattle.listing.specs.declared.line.Line.{Line}
use Rattle.listing.specs.declared.line.Line.TheVariants as line
use Rattle.rehearsal.specs.Events.{Event}
use Rattle.rehearsal.specs.Listing.{round_line, cleared_line, award_lines, lines_from}

-- the line of a call that refused, if it did
abbrev pub said_no : {A : Type 0} → ℕ → Result A Refusal → Option Line
said_no at (Ok a) = None
said_no at (Err e) = Some (line.Refused (auction_question e) at)

-- the first line of an answer, if it has one; s is the auction before the call
abbrev pub first_line : ℕ → State → Answer → Option Line
first_line at s (Refused n) = Some (line.Refused n at)
first_line at s (Enrolled i) = None
first_line at s (Begun k) = None
first_line at s Entered = None
first_line at s SteppedBack = None
first_line at s (ClosedShut f k) = Some (round_line s f)
first_line at s (ClosedSettled f k) = Some (round_line s f)
first_line at s (Opened k) = None

-- the auction after a call, with the first line of its answer
abbrev pub reply : ℕ → State → State × Answer → State × Option Line
reply at s p = (p.0, first_line at s p.1)

-- the lines of a settlement
abbrev pub stage_lines : State → Stage → List Line
stage_lines s stage.Enrolling = []
stage_lines s stage.Open = []
stage_lines s stage.Shut = []
stage_lines s stage.Settled = cleared_line s ∷ award_lines s

abbrev pub settled_lines : State → List Line
settled_lines s = stage_lines s s.stage

-- all lines of what happened, with the auction afterwards
abbrev pub spoken : List Event × State → State × List Line
spoken h = (h.1, lines_from h.0)

-- the same from the first line
abbrev pub in_full : State × Option Line → State × List Line
in_full p = (p.0, option_to_list p.1 ++ settled_lines p.0)
