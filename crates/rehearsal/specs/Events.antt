-- What happens in a run, record by record. Assumes nothing.
use Rattle.std.specs.Prelude.{ℕ, cond, List, [], ◌∷◌, ◌++◌, Some, None, Ok, Err, Option, Result, nat_le}
use Rattle.auction.specs.declared.calls.Call.{Call}
use Rattle.auction.specs.declared.calls.Call.TheVariants.{Enrol, Begin, Exit, Years, StepBack, Close, Next}
use Rattle.auction.specs.declared.clocks.Stage.{Stage}
use Rattle.auction.specs.declared.clocks.Stage.TheVariants.{Enrolling, Open, Shut, Settled}
use Rattle.auction.specs.declared.clocks.Stamp.{Stamp}
use Rattle.auction.specs.State.{State, stamp_of}
use Rattle.auction.specs.Steps.{step}
use Rattle.bidfile.specs.declared.records.SideChoice.{SideChoice}
use Rattle.bidfile.specs.declared.records.SideChoice.TheVariants as choice
use Rattle.bidfile.specs.declared.records.TermsRecord.{TermsRecord}
use Rattle.bidfile.specs.Found.{Found, handed}
use Rattle.bidfile.specs.Items.{Item, UnitItem, terms, corner, unit, exit, years, step_back, close, item_kind}
use Rattle.book.specs.declared.class.Side.{Side}
use Rattle.book.specs.declared.class.Side.TheVariants.{Taker, Maker}
use Rattle.book.specs.declared.terms.Application.{Application}
use Rattle.curve.specs.declared.corner.Corner.{Corner}
use Rattle.listing.specs.declared.fault.Layer.{Layer}
use Rattle.listing.specs.declared.fault.Layer.TheVariants.{File}
use Rattle.rehearsal.specs.Progress.{Progress, fresh, gathering, going, over, is_over, due, opening}

-- a call made on an auction for the record at a place; a fault of a layer, with its number and place; the end of a file
-- before a settlement
pub data Event : Type 0 where
  made : State → ℕ → Call → Event
  faulted : Layer → ℕ → ℕ → Event
  unsettled : Event

-- the terms, or the corner, that a record says
abbrev pub as_terms : Item → Option TermsRecord
as_terms (terms t) = Some t
as_terms (corner c) = None
as_terms (unit u) = None
as_terms (exit e) = None
as_terms (years y) = None
as_terms step_back = None
as_terms close = None

abbrev pub as_corner : Item → Option Corner
as_corner (terms t) = None
as_corner (corner c) = Some c
as_corner (unit u) = None
as_corner (exit e) = None
as_corner (years y) = None
as_corner step_back = None
as_corner close = None

abbrev pub side_of : SideChoice → Side
side_of choice.Taker = Taker
side_of choice.Maker = Maker

abbrev pub application : UnitItem → Application
application u =
    record { capacity = u.capacity; class = u.class; side = side_of u.side; years = u.years; random = u.random; name = u.bytes }

-- the calls of a record, each yet to be given its clock
abbrev pub calls_for : Item → List (Stamp → Call)
calls_for (terms t) = []
calls_for (corner c) = []
calls_for (unit u) = (λ k. Enrol k (application u)) ∷ []
calls_for (exit e) = (λ k. Exit k e.unit e.price) ∷ []
calls_for (years y) = (λ k. Years k y.unit y.years) ∷ []
calls_for step_back = (λ k. StepBack k) ∷ []
calls_for close = (λ k. Close k) ∷ []

-- before its first exit, years, step back or close an auction begins
abbrev pub begin_in : Stage → List (Stamp → Call)
begin_in Enrolling = (λ k. Begin k) ∷ []
begin_in Open = []
begin_in Shut = []
begin_in Settled = []

abbrev pub begin_for : Item → Stage → List (Stamp → Call)
begin_for item stage = cond (nat_le 4 (item_kind item)) (begin_in stage) []

-- after a round that was shut the next is opened
abbrev pub next_in : Stage → List (Stamp → Call)
next_in Enrolling = []
next_in Open = []
next_in Shut = (λ k. Next k) ∷ []
next_in Settled = []

-- a call made with the auction's own clock
abbrev pub own_call : State → (Stamp → Call) → Call
own_call s c = c (stamp_of s)

-- calls made one after the other for the record at a place: what happens, and the auction afterwards
abbrev pub told : ℕ → State → List (Stamp → Call) → List Event × State
told at s [] = ([], s)
told at s (c ∷ cs) =
    (made s at (own_call s c) ∷ (told at (step s (own_call s c)).0 cs).0, (told at (step s (own_call s c)).0 cs).1)

abbrev pub and_then : List Event × State → (State → List Event × State) → List Event × State
and_then first next = (first.0 ++ (next first.1).0, (next first.1).1)

-- a record heard by an open auction
abbrev pub heard : ℕ → State → Item → List Event × State
heard at s item =
    and_then (and_then (told at s (begin_for item s.stage)) (λ t. told at t (calls_for item))) (λ t. told at t (next_in t.stage))

abbrev pub go_on : List Event × State → List Event × Progress
go_on h = (h.0, going h.1)

-- a record that is in turn: the terms and the corners are kept; the first other record opens the auction
abbrev pub taken : Progress → ℕ → Item → List Event × Progress
taken fresh at item = elim (as_terms item) [ None ↦ ([], over) | Some t ↦ ([], gathering t []) ]
taken (gathering t corners) at item =
    elim (as_corner item) [ Some c ↦ ([], gathering t (corners ++ c ∷ [])) | None ↦ elim (opening t corners) [ Err e ↦ (faulted e.0 e.1 0 ∷ [], over) | Ok s ↦ go_on (heard at s item) ] ]
taken (going s) at item = go_on (heard at s item)
taken over at item = ([], over)

-- without a settlement the listing says so
abbrev pub unless_settled : Stage → List Event
unless_settled Enrolling = unsettled ∷ []
unless_settled Open = unsettled ∷ []
unless_settled Shut = unsettled ∷ []
unless_settled Settled = []

-- an auction at the end of its file begins, if it has not
abbrev pub left : State → List Event
left s = (told 0 s (begin_in s.stage)).0 ++ unless_settled s.stage

-- the end of the file
abbrev pub ending : Progress → List Event
ending fresh = []
ending (gathering t corners) =
    elim (opening t corners) [ Err e ↦ faulted e.0 e.1 0 ∷ [] | Ok s ↦ left s ]
ending (going s) = left s
ending over = []

-- what follows from what the reader hands out: a fault, the end, or a record and all that comes after it
abbrev pub following : Progress → Result (Option (ℕ × Item)) (ℕ × ℕ) → (Progress → List Event) → List Event
following p (Err e) later = faulted File e.0 e.1 ∷ []
following p (Ok None) later = ending p
following p (Ok (Some x)) later = (taken p x.0 x.1).0 ++ later (taken p x.0 x.1).1

-- all that happens, from what is found in the file
abbrev pub events : Progress → List Found → List Event
events p [] = cond (is_over p) [] (following p (handed (due p) []) (λ q. []))
events p (f ∷ fs) = cond (is_over p) [] (following p (handed (due p) (f ∷ fs)) (λ q. events q fs))
