-- How far a run of the code has come, and what it makes of a record or of the end of the file. Assumes nothing.
use Rattle.std.specs.Prelude.{◌≡◌, ℕ, ◌<◌, Bool, true, List, [], ◌∷◌, ◌++◌, length, Ok, Err, vec_items, Option, Result, ◌==◌, nat_le}
use Rattle.std.specs.Option.{option_to_list}
use Rattle.auction.specs.State.{State}
use Rattle.bidfile.specs.Items.{Item, item_kind}
use Rattle.curve.specs.declared.corner.Corner.{Corner}
use Rattle.listing.specs.declared.line.Line.{Line}
use Rattle.listing.specs.declared.line.Line.TheVariants as line
use Rattle.listing.specs.declared.fault.Layer.{Layer}
use Rattle.listing.specs.declared.fault.Unopenable.{Unopenable}
use Rattle.listing.specs.Faults.{why_layer, why_number}
use Rattle.rehearsal.specs.declared.progress.Progress.{Progress as Coded}
use Rattle.rehearsal.specs.declared.progress.Progress.TheVariants as coded
use Rattle.rehearsal.specs.Progress.{Progress, fresh, gathering, going, over}
use Rattle.rehearsal.specs.Events.{Event}
use Rattle.rehearsal.specs.Hearing.{Eight, Hearable}
use Rattle.rehearsal.specs.Listing.{lines_from}
use Rattle.rehearsal.specs.Saying.{settled_lines}
use Rattle.rehearsal.specs.Sessions.{session_state, session_stage, unshut}

abbrev pub progress_of : Coded → Progress
progress_of (coded.Fresh s) = fresh
progress_of (coded.Gathering g) = gathering g.terms (vec_items g.corners)
progress_of (coded.Going x) = going (session_state x)
progress_of coded.Over = over

-- an auction that was opened, or why not, as the model has it
abbrev pub opened_as : {H : Type 0} → Result H Unopenable → (H → State) → Result State (Layer × ℕ)
opened_as (Ok held) state_of = Ok (state_of held)
opened_as (Err why) state_of = Err (why_layer why, why_number why)

-- the lines of a settlement, if the auction has just come to it
abbrev pub progress_lines : Coded → List Line
progress_lines (coded.Fresh s) = []
progress_lines (coded.Gathering g) = []
progress_lines (coded.Going x) = settled_lines (session_state x)
progress_lines coded.Over = []

-- a fault that is of no one record
abbrev pub auction_fault_line : Unopenable → Line
auction_fault_line why = line.Fault (why_layer why) (why_number why) 0

-- what is made of a record: how far the run is then, and what is printed
abbrev pub taken_as : Result (Coded × Option Line) Unopenable → Progress × List Line
taken_as (Ok p) = (progress_of p.0, option_to_list p.1 ++ progress_lines p.0)
taken_as (Err f) = (over, auction_fault_line f ∷ [])

-- what happens, as it is printed
abbrev pub as_lines : List Event × Progress → Progress × List Line
as_lines h = (h.1, lines_from h.0)

-- what is made of the end of the file
abbrev pub ended_as : Result (Option Line) Unopenable → List Line
ended_as (Ok l) = option_to_list l
ended_as (Err f) = auction_fault_line f ∷ []

-- the records that can be taken: those that are in turn, and no more corners than there is room for
abbrev pub Keepable : List Corner → Item → Type 0
Keepable corners item = (nat_le 2 (item_kind item) ≡ true) × ((length corners < 8191) × Eight item)

abbrev pub Takeable : Coded → Item → Type 0
Takeable (coded.Fresh s) item = (item_kind item == 1) ≡ true
Takeable (coded.Gathering g) item = Keepable (vec_items g.corners) item
Takeable (coded.Going x) item = Hearable (session_stage x) item
Takeable coded.Over item = ⊥

-- a round that was shut is followed by the next at once
abbrev pub unshut_in : Coded → Bool
unshut_in (coded.Fresh s) = true
unshut_in (coded.Gathering g) = true
unshut_in (coded.Going x) = unshut (session_stage x)
unshut_in coded.Over = true

abbrev pub Unshut : Result (Coded × Option Line) Unopenable → Type 0
Unshut (Ok p) = unshut_in p.0 ≡ true
Unshut (Err f) = Unit {0}
