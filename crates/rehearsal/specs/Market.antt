-- What a listing says in the market's words: of the auction that the file opens, and of the calls made on it.
-- Assumes nothing.
use Rattle.std.specs.Prelude.{◌≡◌, ℕ, ◌+◌, cond, List, [], ◌∷◌, Some, None, Ok, Err, Option}
use Rattle.std.specs.List.{flat_map}
use Rattle.auction.specs.declared.calls.Answer.{Answer}
use Rattle.auction.specs.declared.calls.Answer.TheVariants.{Refused, Enrolled, Begun, Entered, SteppedBack, ClosedShut, ClosedSettled, Opened}
use Rattle.auction.specs.declared.calls.Call.{Call}
use Rattle.auction.specs.declared.calls.Figures.{Figures}
use Rattle.auction.specs.declared.calls.Turn.{Turn}
use Rattle.auction.specs.declared.clocks.Stage.TheVariants.{Settled}
use Rattle.auction.specs.History.{played, ended, closings, floor_after}
use Rattle.auction.specs.Promise.{Promise}
use Rattle.auction.specs.State.{State, same_stage}
use Rattle.bidfile.specs.declared.records.TermsRecord.{TermsRecord}
use Rattle.bidfile.specs.Found.{Found, found, length_questions}
use Rattle.bidfile.specs.Items.{Item}
use Rattle.curve.specs.declared.corner.Corner.{Corner}
use Rattle.curve.specs.Questions.{first_no}
use Rattle.listing.specs.declared.fault.Layer.{Layer}
use Rattle.listing.specs.declared.line.Line.{Line}
use Rattle.listing.specs.declared.line.Line.TheVariants.{Round, Refused as RefusedLine, Cleared, Award, Fault, Unsettled}
use Rattle.rehearsal.specs.Events.{Event, made, faulted, unsettled, as_terms, as_corner, events}
use Rattle.rehearsal.specs.Listing.{cleared_line, award_lines}
use Rattle.rehearsal.specs.Progress.{fresh, opening}

-- The auction that a file opens

-- a record whose words and fields are right
abbrev pub sound_item : Found → Option Item
sound_item f = cond f.whole f.item None

abbrev pub terms_in : Found → Option TermsRecord
terms_in f = elim (sound_item f) [ None ↦ None | Some item ↦ as_terms item ]

abbrev pub corner_in : Found → Option Corner
corner_in f = elim (sound_item f) [ None ↦ None | Some item ↦ as_corner item ]

-- the corners that stand one after the other
abbrev pub corners_in : List Found → List Corner
corners_in [] = []
corners_in (f ∷ fs) = elim (corner_in f) [ None ↦ [] | Some c ↦ c ∷ corners_in fs ]

-- with the terms that stand first and the corners that follow them; none if these open no auction
abbrev pub opened_in : List Found → Option State
opened_in [] = None
opened_in (f ∷ fs) =
    elim (terms_in f) [ None ↦ None | Some t ↦ elim (opening t (corners_in fs)) [ Ok s ↦ Some s | Err e ↦ None ] ]

abbrev pub opened_by : List ℕ → Option State
opened_by bytes = opened_in (found bytes 0)

-- The calls that are made on it

abbrev pub calls_in : List Event → List Call
calls_in [] = []
calls_in (made s at c ∷ es) = c ∷ calls_in es
calls_in (faulted layer n at ∷ es) = calls_in es
calls_in (unsettled ∷ es) = calls_in es

-- the calls that the records of a file are made into, in order; none of a file that is not read
abbrev pub calls_of_file : List ℕ → List Call
calls_of_file bytes =
    elim (first_no (length_questions bytes)) [ Some n ↦ [] | None ↦ calls_in (events fresh (found bytes 0)) ]

-- Lines by what they say

abbrev pub round_in : Line → List Line
round_in (Round n top floor kw demand) = Round n top floor kw demand ∷ []
round_in (RefusedLine n at) = []
round_in (Cleared price why) = []
round_in (Award name kw years) = []
round_in (Fault layer n at) = []
round_in Unsettled = []

abbrev pub refusal_in : Line → List ℕ
refusal_in (Round n top floor kw demand) = []
refusal_in (RefusedLine n at) = n ∷ []
refusal_in (Cleared price why) = []
refusal_in (Award name kw years) = []
refusal_in (Fault layer n at) = []
refusal_in Unsettled = []

abbrev pub cleared_in : Line → List Line
cleared_in (Round n top floor kw demand) = []
cleared_in (RefusedLine n at) = []
cleared_in (Cleared price why) = Cleared price why ∷ []
cleared_in (Award name kw years) = []
cleared_in (Fault layer n at) = []
cleared_in Unsettled = []

abbrev pub award_in : Line → List Line
award_in (Round n top floor kw demand) = []
award_in (RefusedLine n at) = []
award_in (Cleared price why) = []
award_in (Award name kw years) = Award name kw years ∷ []
award_in (Fault layer n at) = []
award_in Unsettled = []

-- the ROUND lines of accepted Closes with these figures, n of which came before: the round is counted from 1, its cap is the
-- floor of the one before it
abbrev pub round_lines : ℕ → ℕ → ℕ → List Figures → List Line
round_lines top spread n [] = []
round_lines top spread n (f ∷ fs) =
    Round (n + 1) (floor_after top spread n) (floor_after top spread (n + 1)) f.capacity_in f.demand ∷ round_lines top spread (n + 1) fs

-- the numbers of the refused calls of a history
abbrev pub refused_number : Answer → List ℕ
refused_number (Refused n) = n ∷ []
refused_number (Enrolled i) = []
refused_number (Begun k) = []
refused_number Entered = []
refused_number SteppedBack = []
refused_number (ClosedShut f k) = []
refused_number (ClosedSettled f k) = []
refused_number (Opened k) = []

abbrev pub refusals : List Turn → List ℕ
refusals h = flat_map (λ t. refused_number t.answer) h

-- lines that only a settled auction has
abbrev pub if_settled : State → List Line → List Line
if_settled s lines = cond (same_stage s.stage Settled) lines []

-- a list of calls on an auction, whose answers are what the lines say
pub record Followed (start : State) (calls : List Call) (lines : List Line) : Type 0 where
  -- the ROUND lines are the figures of its accepted Closes
  pub rounds : flat_map round_in lines ≡ round_lines start.top start.spread 0 (closings (played start calls))
  -- the REFUSED lines are its refusals, in order
  pub refused : flat_map refusal_in lines ≡ refusals (played start calls)
  -- CLEARED is its settlement, and comes only if it settled
  pub cleared : flat_map cleared_in lines ≡ if_settled (ended start calls) (cleared_line (ended start calls) ∷ [])
  -- the AWARD lines are its roll
  pub awards : flat_map award_in lines ≡ if_settled (ended start calls) (award_lines (ended start calls))
  -- and it keeps the laws on capacity in, on clearing and on striking out
  pub promise : Promise start (played start calls) (ended start calls)

-- one FAULT line and no other
abbrev pub OnlyFault : List Line → Type 0
OnlyFault lines = (layer : Layer) × (n : ℕ) × (at : ℕ) × (lines ≡ Fault layer n at ∷ [])

-- a file that opens no auction gives one fault; else the lines are what the calls of the file's records answer
abbrev pub Market : List ℕ → List Line → Type 0
Market bytes lines =
    elim (opened_by bytes) [ None ↦ OnlyFault lines | Some s ↦ Followed s (calls_of_file bytes) lines ]
