-- The roll of a settled auction. Assumes nothing.
use Rattle.std.specs.Prelude.{ℕ, ◌+◌, cond, List, [], ◌∷◌, ◌++◌, length, drop, Some, None, Ok, Err, Option, Result, nat_le}
use Rattle.std.specs.Option.{option_to_list}
use Rattle.auction.specs.Awards.{is_awarded, award_of}
use Rattle.auction.specs.declared.clocks.Stage.TheVariants.{Settled}
use Rattle.auction.specs.declared.clocks.Stamp.{Stamp}
use Rattle.auction.specs.Reading.{settlement_of}
use Rattle.auction.specs.State.{State}
use Rattle.auction.specs.Steps.{own_clock}
use Rattle.book.specs.Asked.{asked}
use Rattle.book.specs.Books.{unit_at}
use Rattle.book.specs.declared.unit.Unit.{Unit as Row}
use Rattle.clearing.specs.declared.settlement.Settlement.{Settlement}
use Rattle.curve.specs.Questions.{Question, first_no}
use Rattle.ranking.specs.Ahead.{roll_ahead}
use Rattle.ranking.specs.declared.roll.RollRow.{RollRow}
use Rattle.ranking.specs.Rankings.{ranking_of}

-- the row of the unit i, with what it is awarded, if it is
abbrev pub row_of : State → Settlement → ℕ → Option RollRow
row_of s settled i =
    cond (is_awarded s settled i)
    (Some (record { name = (unit_at s.book i).enrolled.name; capacity = (award_of s settled i).0; years = (award_of s settled i).1; unit = i }))
    None

-- the rows of the awarded units among these, which are numbered from n on
abbrev pub rows_of : State → Settlement → ℕ → List Row → List RollRow
rows_of s settled n [] = []
rows_of s settled n (u ∷ us) = option_to_list (row_of s settled n) ++ rows_of s settled (n + 1) us

-- the rows of all awarded units, in the order of the roll
abbrev pub roll_of : State → Settlement → List RollRow
roll_of s settled = ranking_of roll_ahead (rows_of s settled 0 s.book.units)

abbrev pub roll_questions : State → Stamp → List RollRow → List Question
roll_questions s c rows =
    own_clock s Settled c ∷ asked 22 (nat_le (length (roll_of s (settlement_of s))) (length rows)) ∷ []

-- what Roll answers, and what it makes of the rows that it is lent
abbrev pub roll_read : State → Stamp → List RollRow → Result ℕ ℕ × List RollRow
roll_read s c rows =
    elim (first_no (roll_questions s c rows)) [ None ↦ (Ok (length (roll_of s (settlement_of s))), roll_of s (settlement_of s) ++ drop (length (roll_of s (settlement_of s))) rows) | Some n ↦ (Err n, rows) ]
