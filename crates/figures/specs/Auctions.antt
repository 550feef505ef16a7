-- The worked auctions over curve K, call by call, and what they come to.
use Rattle.std.specs.Prelude.{◌≡◌, ℕ, List, [], ◌∷◌, map, slice_set, Some, None, codes}
use Prim.Native.String.{String}
use Rattle.auction.specs.declared.calls.Answer.{Answer}
use Rattle.auction.specs.declared.calls.Answer.TheVariants.{Refused, Enrolled, Begun, Entered, SteppedBack, ClosedShut, ClosedSettled, Opened}
use Rattle.auction.specs.declared.calls.Call.{Call}
use Rattle.auction.specs.declared.calls.Call.TheVariants.{Enrol, Begin, Exit, Years, StepBack, Close, Next}
use Rattle.auction.specs.declared.calls.Figures.{Figures}
use Rattle.auction.specs.declared.clocks.Stamp.{Stamp}
use Rattle.auction.specs.Awards.{award_of}
use Rattle.auction.specs.History.{played, ended}
use Rattle.auction.specs.Rolls.{roll_of}
use Rattle.auction.specs.State.{State, priced}
use Rattle.auction.specs.Steps.{opened, open_questions}
use Rattle.book.specs.declared.class.Side.TheVariants.{Taker, Maker}
use Rattle.book.specs.declared.terms.Application.{Application}
use Rattle.clearing.specs.declared.ground.Ground.{Ground}
use Rattle.clearing.specs.declared.ground.Ground.TheVariants.{AllFit, NextTaken, NextLeft}
use Rattle.clearing.specs.declared.settlement.Settlement.{Settlement}
use Rattle.clearing.specs.Finding.{settlement_at}
use Rattle.curve.specs.Questions.{first_no}
use Rattle.ranking.specs.Ahead.{rule_ahead}
use Rattle.ranking.specs.declared.roll.RollRow.{RollRow}
use Rattle.figures.specs.Clearings.{worked_curve}

-- ---- the units that apply

abbrev pub holt_applies : Application
holt_applies = record { capacity = 9000; class = 0; side = Maker; years = 1; random = 4; name = codes "HOLT-1  " }

abbrev pub beck_applies : Application
beck_applies = record { capacity = 10000; class = 0; side = Taker; years = 1; random = 9; name = codes "BECK-2  " }

-- COMBE-3, of a capacity that differs between the auction and its twin
abbrev pub combe_applies : ℕ → Application
combe_applies capacity = record { capacity = capacity; class = 2; side = Maker; years = 15; random = 2; name = codes "COMBE-3 " }

abbrev pub dale_applies : Application
dale_applies = record { capacity = 1000; class = 3; side = Maker; years = 1; random = 7; name = codes "DALE-4  " }

abbrev pub edge_applies : Application
edge_applies = record { capacity = 2000; class = 1; side = Maker; years = 3; random = 5; name = codes "EDGE-5  " }

-- ---- the calls

-- the auction's own clock in a round; round 0 is the enrolment
abbrev pub clock : ℕ → Stamp
clock round = record { number = 1; round = round }

abbrev pub worked_start : State
worked_start = opened 1 7000 3000 2500 worked_curve rule_ahead

-- EDGE-5 leaves in round 1; in round 2 BECK-2 may not, HOLT-1 leaves and is taken back, DALE-4 and COMBE-3 leave
abbrev pub worked_calls : ℕ → List Call
worked_calls combe =
    Enrol (clock 0) holt_applies
    ∷ Enrol (clock 0) beck_applies
    ∷ Enrol (clock 0) (combe_applies combe)
    ∷ Enrol (clock 0) dale_applies
    ∷ Enrol (clock 0) edge_applies
    ∷ Begin (clock 0)
    ∷ Exit (clock 1) 4 5000
    ∷ Close (clock 1)
    ∷ Next (clock 1)
    ∷ Exit (clock 2) 1 3600
    ∷ Years (clock 2) 2 10
    ∷ Exit (clock 2) 0 3800
    ∷ StepBack (clock 2)
    ∷ Exit (clock 2) 3 3600
    ∷ Exit (clock 2) 2 3600
    ∷ Close (clock 2)
    ∷ []

-- nobody is enrolled
abbrev pub empty_calls : List Call
empty_calls = Begin (clock 0) ∷ Close (clock 1) ∷ []

-- ---- what they come to

abbrev pub figures : ℕ → ℕ → Figures
figures in_kw demand = record { capacity_in = in_kw; demand = demand }

abbrev pub settled_at : ℕ → Ground → ℕ → Settlement
settled_at = settlement_at

abbrev pub answers_to : List Call → List Answer
answers_to calls = map (λ t. t.answer) (played worked_start calls)

-- the auction when all calls are made
abbrev pub end_of : List Call → State
end_of calls = ended worked_start calls

-- what a unit is awarded in the worked auction, and in its twin
abbrev pub worked_award : ℕ → ℕ × ℕ
worked_award unit = award_of (end_of (worked_calls 1400)) (settled_at 3600 NextTaken 2) unit

abbrev pub twin_award : ℕ → ℕ × ℕ
twin_award unit = award_of (end_of (worked_calls 1500)) (settled_at 3600 NextLeft 1) unit

-- a row of the roll
abbrev pub row : String → ℕ → ℕ → ℕ → RollRow
row name capacity years unit = record { name = codes name; capacity = capacity; years = years; unit = unit }

abbrev pub worked_roll : List RollRow
worked_roll = roll_of (end_of (worked_calls 1400)) (settled_at 3600 NextTaken 2)

abbrev pub worked_answers : List Answer
worked_answers =
    Enrolled 0
    ∷ Enrolled 1
    ∷ Enrolled 2
    ∷ Enrolled 3
    ∷ Enrolled 4
    ∷ Begun (clock 1)
    ∷ Entered
    ∷ ClosedShut (figures 21400 20000) (clock 1)
    ∷ Opened (clock 2)
    ∷ Refused 18
    ∷ Entered
    ∷ Entered
    ∷ SteppedBack
    ∷ Entered
    ∷ Entered
    ∷ ClosedSettled (figures 19000 27500) (clock 2)
    ∷ []

-- what the same calls answer in the twin: the first close has 21,500 in
abbrev pub answers_of_the_twin : List Answer
answers_of_the_twin = slice_set worked_answers 7 (ClosedShut (figures 21500 20000) (clock 1))

pub record WorkedAuctions : Type 0 where
  -- the Open is not refused
  pub opens : first_no (open_questions worked_curve 7000 3000 2500) ≡ None
  pub answers : answers_to (worked_calls 1400) ≡ worked_answers
  -- the second exit is worth what it costs more, and is taken
  pub settlement : priced (end_of (worked_calls 1400)) ≡ Some (settled_at 3600 NextTaken 2)
  pub holt_awarded : worked_award 0 ≡ (9000, 1)
  pub beck_awarded : worked_award 1 ≡ (10000, 1)
  pub combe_awarded : worked_award 2 ≡ (1400, 10)
  pub dale_awarded : worked_award 3 ≡ (1000, 1)
  pub edge_not_awarded : worked_award 4 ≡ (0, 0)
  -- the roll, by name
  pub roll : worked_roll ≡ row "BECK-2  " 10000 1 1 ∷ row "COMBE-3 " 1400 10 2 ∷ row "DALE-4  " 1000 1 3 ∷ row "HOLT-1  " 9000 1 0 ∷ []
  -- the twin: with 1,500 for 1,400 it is worth just that, and is left
  pub twin_answers : answers_to (worked_calls 1500) ≡ answers_of_the_twin
  pub twin_settlement : priced (end_of (worked_calls 1500)) ≡ Some (settled_at 3600 NextLeft 1)
  pub twin_holt_awarded : twin_award 0 ≡ (9000, 1)
  pub twin_beck_awarded : twin_award 1 ≡ (10000, 1)
  pub twin_combe_awarded : twin_award 2 ≡ (1500, 10)
  pub twin_dale_not_awarded : twin_award 3 ≡ (0, 0)
  -- nobody is enrolled
  pub nobody_settlement : priced (end_of empty_calls) ≡ Some (settled_at 4000 AllFit 0)
  pub nobody_answers : answers_to empty_calls ≡ Begun (clock 1) ∷ ClosedSettled (figures 0 20000) (clock 1) ∷ []
  pub nobody_on_the_roll : roll_of (end_of empty_calls) (settled_at 4000 AllFit 0) ≡ []
