-- How far a run has come, and what opens its auction. Assumes nothing.
use Rattle.std.specs.Prelude.{ℕ, Bool, true, false, List, Some, None, Ok, Err, Result}
use Rattle.auction.specs.declared.clocks.Stage.{Stage}
use Rattle.auction.specs.declared.clocks.Stage.TheVariants as stage
use Rattle.auction.specs.State.{State}
use Rattle.auction.specs.Steps.{opened, open_questions}
use Rattle.bidfile.specs.declared.records.Due.{Due}
use Rattle.bidfile.specs.declared.records.Due.TheVariants as records
use Rattle.bidfile.specs.declared.records.TermsRecord.{TermsRecord}
use Rattle.curve.specs.Corners.{corner_questions}
use Rattle.curve.specs.declared.corner.Corner.{Corner}
use Rattle.curve.specs.Questions.{first_no}
use Rattle.listing.specs.declared.fault.Layer.{Layer}
use Rattle.listing.specs.declared.fault.Layer.TheVariants.{Curve, Auction}
use Rattle.selection.specs.Selected.{shape, selected_curve, selected_ties}

-- no record has come; the terms and the corners so far are kept; an auction is open; the run has ended
pub data Progress : Type 0 where
  fresh : Progress
  gathering : TermsRecord → List Corner → Progress
  going : State → Progress
  over : Progress

abbrev pub is_over : Progress → Bool
is_over fresh = false
is_over (gathering t corners) = false
is_over (going s) = false
is_over over = true

abbrev pub due_in : Stage → Due
due_in stage.Enrolling = records.Units
due_in stage.Open = records.Entries
due_in stage.Shut = records.Entries
due_in stage.Settled = records.Nothing

-- the records that are in turn
abbrev pub due : Progress → Due
due fresh = records.Terms
due (gathering t corners) = records.Corners
due (going s) = due_in s.stage
due over = records.Nothing

-- the number of every run's auction, which a file does not say
abbrev pub own_number : ℕ
own_number = 1

-- the auction that the terms open over the curve with these corners
abbrev pub opened_with : TermsRecord → List Corner → State
opened_with t corners =
    opened own_number t.«cap» t.spread t.threshold (selected_curve t.curve corners) (selected_ties t.order)

-- that auction, or the layer and the number of the first question that is answered "no": those of the curve, then those of Open
abbrev pub opening : TermsRecord → List Corner → Result State (Layer × ℕ)
opening t corners =
    elim (first_no (corner_questions (shape t.curve) corners)) [ Some n ↦ Err (Curve, n) | None ↦ elim (first_no (open_questions (selected_curve t.curve corners) t.«cap» t.spread t.threshold)) [ Some n ↦ Err (Auction, n) | None ↦ Ok (opened_with t corners) ] ]
