-- The listing of a bid file. Assumes nothing.
use Rattle.std.specs.Prelude.{ℕ, List, [], ◌∷◌, map, Some, None}
use Rattle.std.specs.List.{flat_map}
use Rattle.auction.specs.declared.calls.Answer.{Answer}
use Rattle.auction.specs.declared.calls.Answer.TheVariants.{Refused, Enrolled, Begun, Entered, SteppedBack, ClosedShut, ClosedSettled, Opened}
use Rattle.auction.specs.declared.calls.Figures.{Figures}
use Rattle.auction.specs.Reading.{settlement_of}
use Rattle.auction.specs.Rolls.{roll_of}
use Rattle.auction.specs.State.{State, floor_of}
use Rattle.auction.specs.Steps.{step}
use Rattle.bidfile.specs.Found.{found, length_questions}
use Rattle.curve.specs.Questions.{first_no}
use Rattle.listing.specs.declared.fault.Layer.TheVariants.{File}
use Rattle.listing.specs.declared.line.Line.{Line}
use Rattle.listing.specs.declared.line.Line.TheVariants as line
use Rattle.ranking.specs.declared.roll.RollRow.{RollRow}
use Rattle.rehearsal.specs.Events.{Event, made, faulted, unsettled, events}
use Rattle.rehearsal.specs.Progress.{fresh}

-- a round that was closed, with its figures
abbrev pub round_line : State → Figures → Line
round_line s f = line.Round s.round s.top (floor_of s) f.capacity_in f.demand

abbrev pub cleared_line : State → Line
cleared_line s = line.Cleared (settlement_of s).price (settlement_of s).ground

abbrev pub award_line : RollRow → Line
award_line row = line.Award row.name row.capacity row.years

abbrev pub award_lines : State → List Line
award_lines s = map award_line (roll_of s (settlement_of s))

-- what an answer prints: s is the auction before the call, t the auction after it
abbrev pub answer_lines : ℕ → State → State → Answer → List Line
answer_lines at s t (Refused n) = line.Refused n at ∷ []
answer_lines at s t (Enrolled i) = []
answer_lines at s t (Begun k) = []
answer_lines at s t Entered = []
answer_lines at s t SteppedBack = []
answer_lines at s t (ClosedShut f k) = round_line s f ∷ []
answer_lines at s t (ClosedSettled f k) = round_line s f ∷ (cleared_line t ∷ award_lines t)
answer_lines at s t (Opened k) = []

abbrev pub lines_of : Event → List Line
lines_of (made s at c) = answer_lines at s (step s c).0 (step s c).1
lines_of (faulted layer n at) = line.Fault layer n at ∷ []
lines_of unsettled = line.Unsettled ∷ []

-- the lines of all that is found in a file
abbrev pub lines_from : List Event → List Line
lines_from es = flat_map lines_of es

abbrev pub listing : List ℕ → List Line
listing bytes =
    elim (first_no (length_questions bytes)) [ Some n ↦ line.Fault File n 0 ∷ [] | None ↦ lines_from (events fresh (found bytes 0)) ]
