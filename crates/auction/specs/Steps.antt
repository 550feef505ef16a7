-- What each call makes of an auction, and what it answers. Assumes nothing.
use Rattle.std.specs.Prelude.{ℕ, ◌+◌, Bool, cond, ◌&&◌, List, [], ◌∷◌, length, Some, None, nat_le, nat_lt}
use Rattle.auction.specs.declared.calls.Answer.{Answer}
use Rattle.auction.specs.declared.calls.Answer.TheVariants.{Refused, Enrolled, Begun, Entered, SteppedBack, ClosedShut, ClosedSettled, Opened}
use Rattle.auction.specs.declared.calls.Call.{Call}
use Rattle.auction.specs.declared.calls.Call.TheVariants.{Enrol, Begin, Exit, Years, StepBack, Close, Next}
use Rattle.auction.specs.declared.calls.Figures.{Figures}
use Rattle.auction.specs.declared.clocks.Stage.{Stage}
use Rattle.auction.specs.declared.clocks.Stage.TheVariants.{Enrolling, Open, Shut, Settled}
use Rattle.auction.specs.declared.clocks.Stamp.{Stamp}
use Rattle.auction.specs.declared.refusal.Refusal.{Refusal}
use Rattle.auction.specs.declared.refusal.Refusal.TheVariants.{CapOrDemand, Spread, Threshold, Clock, Book, Rows}
use Rattle.auction.specs.State.{State, floor_of, terms_of, in_of, current, stamp_of}
use Rattle.book.specs.Asked.{book_question, asked, enrol_questions, exit_questions, years_questions, back_questions}
use Rattle.book.specs.Books.{Books, no_books, new_unit, with_unit, with_exit, with_years, stepped_back, closed_book}
use Rattle.book.specs.declared.terms.Application.{Application}
use Rattle.curve.specs.Meaning.{Meaning}
use Rattle.curve.specs.Questions.{Question, first_no}
use Rattle.curve.specs.Words.{within}
use Rattle.ranking.specs.declared.exits.Exit.{Exit as Leaving}

abbrev pub auction_question : Refusal → ℕ
auction_question CapOrDemand = 6
auction_question Spread = 7
auction_question Threshold = 8
auction_question Clock = 9
auction_question (Book e) = book_question e
auction_question Rows = 22

-- the questions of Open
abbrev pub open_questions : Meaning → ℕ → ℕ → ℕ → List Question
open_questions m top spread threshold =
    asked 6 (nat_le 1 top && (nat_le top 10000 && nat_lt 0 (m.demand top)))
    ∷ asked 7 (nat_le 1 spread && nat_le spread top)
    ∷ asked 8 (nat_le threshold top)
    ∷ []

-- an auction just opened
abbrev pub opened : ℕ → ℕ → ℕ → ℕ → Meaning → (Leaving → Leaving → Bool) → State
opened number top spread threshold m ahead =
    record {
      number = number;
      stage = Enrolling;
      round = 0;
      top = top;
      spread = spread;
      threshold = threshold;
      book = no_books;
      curve = m;
      ahead = ahead;
    }

abbrev pub with_book : State → Books → State
with_book s b =
    record {
      number = s.number;
      stage = s.stage;
      round = s.round;
      top = s.top;
      spread = s.spread;
      threshold = s.threshold;
      book = b;
      curve = s.curve;
      ahead = s.ahead;
    }

-- the same auction in another stage, round, cap and book
abbrev pub moved_to : State → Stage → ℕ → ℕ → Books → State
moved_to s stage round top b =
    record {
      number = s.number;
      stage = stage;
      round = round;
      top = top;
      spread = s.spread;
      threshold = s.threshold;
      book = b;
      curve = s.curve;
      ahead = s.ahead;
    }

-- the first "no" leaves the auction as it was and is answered; else the call is carried out
abbrev pub carried_out : List Question → State → State → Answer → State × Answer
carried_out qs s t a = elim (first_no qs) [ None ↦ (t, a) | Some n ↦ (s, Refused n) ]

-- question 9: is the clock the auction's own?
abbrev pub own_clock : State → Stage → Stamp → Question
own_clock s stage stamp = asked 9 (current s stage stamp)

abbrev pub enrolled : State → Stamp → Application → State × Answer
enrolled s c a =
    carried_out (own_clock s Enrolling c ∷ enrol_questions s.book a) s
    (with_book s (with_unit s.book (new_unit a))) (Enrolled (length s.book.units))

abbrev pub begun : State → Stamp → State × Answer
begun s c =
    carried_out (own_clock s Enrolling c ∷ []) s (moved_to s Open 1 s.top s.book)
    (Begun (record { number = s.number; round = 1 }))

abbrev pub exited : State → Stamp → ℕ → ℕ → State × Answer
exited s c i price =
    carried_out (own_clock s Open c ∷ exit_questions (terms_of s) s.book i price) s
    (with_book s (with_exit s.book i price)) Entered

abbrev pub served : State → Stamp → ℕ → ℕ → State × Answer
served s c i years =
    carried_out (own_clock s Open c ∷ years_questions s.book i years) s
    (with_book s (with_years s.book i years)) Entered

abbrev pub went_back : State → Stamp → State × Answer
went_back s c =
    carried_out (own_clock s Open c ∷ back_questions s.book) s (with_book s (stepped_back s.book)) SteppedBack

-- the capacity in, and the demand at the floor
abbrev pub figures_of : State → Figures
figures_of s = record { capacity_in = in_of s; demand = s.curve.demand (floor_of s) }

-- settling does not change the book; a round that does not clear puts its entries out of reach
abbrev pub closed : State → Stamp → State × Answer
closed s c =
    cond (within s.curve (floor_of s) (in_of s))
    (carried_out (own_clock s Open c ∷ []) s (moved_to s Settled s.round s.top s.book) (ClosedSettled (figures_of s) (stamp_of s)))
    (carried_out (own_clock s Open c ∷ []) s (moved_to s Shut s.round s.top (closed_book s.book)) (ClosedShut (figures_of s) (stamp_of s)))

abbrev pub went_on : State → Stamp → State × Answer
went_on s c =
    carried_out (own_clock s Shut c ∷ []) s (moved_to s Open (s.round + 1) (floor_of s) s.book)
    (Opened (record { number = s.number; round = s.round + 1 }))

abbrev pub step : State → Call → State × Answer
step s (Enrol c a) = enrolled s c a
step s (Begin c) = begun s c
step s (Exit c i price) = exited s c i price
step s (Years c i years) = served s c i years
step s (StepBack c) = went_back s c
step s (Close c) = closed s c
step s (Next c) = went_on s c
