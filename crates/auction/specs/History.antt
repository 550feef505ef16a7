-- Histories: calls with their answers, in the order made, and what the accepted ones say. Assumes nothing.
use Rattle.std.specs.Prelude.{ℕ, ◌+◌, ◌-◌, ◌*◌, Bool, true, false, cond, List, [], ◌∷◌, map, reverse, Some, None, sum_by, Option, ◌==◌, slice_index_or}
use Rattle.std.specs.List.{flat_map}
use Rattle.auction.specs.declared.calls.Answer.{Answer}
use Rattle.auction.specs.declared.calls.Answer.TheVariants.{Refused, Enrolled, Begun, Entered, SteppedBack, ClosedShut, ClosedSettled, Opened}
use Rattle.auction.specs.declared.calls.Call.{Call}
use Rattle.auction.specs.declared.calls.Call.TheVariants.{Enrol, Begin, Exit, Years, StepBack, Close, Next}
use Rattle.auction.specs.declared.calls.Figures.{Figures}
use Rattle.auction.specs.declared.calls.Turn.{Turn}
use Rattle.auction.specs.State.{State}
use Rattle.auction.specs.Steps.{step}
use Rattle.book.specs.declared.class.Side.TheVariants.{Taker}
use Rattle.book.specs.declared.terms.Application.{Application}
use Rattle.book.specs.declared.unit.Unit.{Unit as Row}
use Rattle.book.specs.Books.{new_unit, leaving}
use Rattle.ranking.specs.declared.exits.Exit.{Exit as Leaving}

abbrev pub turn : Call → Answer → Turn
turn c a = record { call = c; answer = a }

-- the calls made one after the other from a state, each with its answer, and the state at the end
abbrev pub played : State → List Call → List Turn
played s [] = []
played s (c ∷ cs) = turn c (step s c).1 ∷ played (step s c).0 cs

abbrev pub ended : State → List Call → State
ended s [] = s
ended s (c ∷ cs) = ended (step s c).0 cs

-- what a turn says: that the call was refused, or what the accepted call did
pub data Saying : Type 0 where
  refused : Saying
  enrols : Application → Saying
  -- a Begin or a Next: a round opens
  opens : Saying
  -- an Exit, of a unit at a price
  exits : ℕ → ℕ → Saying
  -- a Years, of a unit for so many
  serves : ℕ → ℕ → Saying
  steps_back : Saying
  -- a Close, with its figures, and whether it settled
  closes : Figures → Bool → Saying

abbrev pub no_figures : Figures
no_figures = record { capacity_in = 0; demand = 0 }

-- what an accepted call says, with the figures of its answer
abbrev pub accepted_as : Call → Figures → Bool → Saying
accepted_as (Enrol c a) f settled = enrols a
accepted_as (Begin c) f settled = opens
accepted_as (Exit c i price) f settled = exits i price
accepted_as (Years c i years) f settled = serves i years
accepted_as (StepBack c) f settled = steps_back
accepted_as (Close c) f settled = closes f settled
accepted_as (Next c) f settled = opens

abbrev pub says : Call → Answer → Saying
says c (Refused n) = refused
says c (Enrolled i) = accepted_as c no_figures false
says c (Begun k) = accepted_as c no_figures false
says c Entered = accepted_as c no_figures false
says c SteppedBack = accepted_as c no_figures false
says c (ClosedShut f k) = accepted_as c f false
says c (ClosedSettled f k) = accepted_as c f true
says c (Opened k) = accepted_as c no_figures false

abbrev pub saying : Turn → Saying
saying t = says t.call t.answer

-- an entry: an accepted Exit or Years
abbrev pub is_entry : Saying → Bool
is_entry refused = false
is_entry (enrols a) = false
is_entry opens = false
is_entry (exits i price) = true
is_entry (serves i years) = true
is_entry steps_back = false
is_entry (closes f settled) = false

-- Striking. Turns that are kept stand latest first here.

-- without the last entry
abbrev pub less_entry : List Turn → List Turn
less_entry [] = []
less_entry (t ∷ kept) = cond (is_entry (saying t)) kept (t ∷ less_entry kept)

-- a refused turn goes; an accepted step back goes, and with it the last entry kept; every other turn is kept
abbrev pub keep : List Turn → Turn → Saying → List Turn
keep kept t refused = kept
keep kept t (enrols a) = t ∷ kept
keep kept t opens = t ∷ kept
keep kept t (exits i price) = t ∷ kept
keep kept t (serves i years) = t ∷ kept
keep kept t steps_back = less_entry kept
keep kept t (closes f settled) = t ∷ kept

-- reading a history from the front
abbrev pub kept_on : List Turn → List Turn → List Turn
kept_on kept [] = kept
kept_on kept (t ∷ h) = kept_on (keep kept t (saying t)) h

abbrev pub kept_latest_first : List Turn → List Turn
kept_latest_first h = kept_on [] h

-- what is kept of a history, in the order made
abbrev pub struck : List Turn → List Turn
struck h = reverse (kept_latest_first h)

-- What a history says of its units and rounds

abbrev pub application_in : Saying → List Application
application_in refused = []
application_in (enrols a) = a ∷ []
application_in opens = []
application_in (exits i price) = []
application_in (serves i years) = []
application_in steps_back = []
application_in (closes f settled) = []

abbrev pub exit_in : Saying → List (ℕ × ℕ)
exit_in refused = []
exit_in (enrols a) = []
exit_in opens = []
exit_in (exits i price) = (i, price) ∷ []
exit_in (serves i years) = []
exit_in steps_back = []
exit_in (closes f settled) = []

abbrev pub years_in : Saying → List (ℕ × ℕ)
years_in refused = []
years_in (enrols a) = []
years_in opens = []
years_in (exits i price) = []
years_in (serves i years) = (i, years) ∷ []
years_in steps_back = []
years_in (closes f settled) = []

abbrev pub figures_in : Saying → List Figures
figures_in refused = []
figures_in (enrols a) = []
figures_in opens = []
figures_in (exits i price) = []
figures_in (serves i years) = []
figures_in steps_back = []
figures_in (closes f settled) = f ∷ []

-- the applications of the accepted Enrols, in order: the unit i is the one enrolled by the application i
abbrev pub enrolments : List Turn → List Application
enrolments h = flat_map (λ t. application_in (saying t)) h

-- the accepted Exits, each its unit and its price, and the accepted Years, each its unit and its years
abbrev pub all_exits : List Turn → List (ℕ × ℕ)
all_exits h = flat_map (λ t. exit_in (saying t)) h

abbrev pub all_years : List Turn → List (ℕ × ℕ)
all_years h = flat_map (λ t. years_in (saying t)) h

-- the figures of the accepted Closes
abbrev pub closings : List Turn → List Figures
closings h = flat_map (λ t. figures_in (saying t)) h

abbrev pub no_application : Application
no_application = record { capacity = 0; class = 0; side = Taker; years = 0; random = 0; name = [] }

abbrev pub application_of : List Application → ℕ → Application
application_of applications i = slice_index_or applications i no_application

-- what was enrolled, in kW
abbrev pub enrolled_kw : List Turn → ℕ
enrolled_kw h = sum_by (λ a. a.capacity) (enrolments h)

-- the exits standing, of whatever round, in kW: each counts its unit's capacity
abbrev pub exits_kw : List Turn → ℕ
exits_kw h = sum_by (λ e. (application_of (enrolments h) e.0).capacity) (all_exits (struck h))

-- the floor of the n-th accepted Close, from Open's cap and the spread
abbrev pub floor_after : ℕ → ℕ → ℕ → ℕ
floor_after top spread n = top - n * spread

-- The book that kept turns say

-- the number last given for the unit i, if one was
abbrev pub last_for : ℕ → Option ℕ → List (ℕ × ℕ) → Option ℕ
last_for i found [] = found
last_for i found (e ∷ es) = last_for i (cond (i == e.0) (Some e.1) found) es

abbrev pub or_else : ℕ → Option ℕ → ℕ
or_else n None = n
or_else n (Some k) = k

abbrev pub is_none : Option ℕ → Bool
is_none None = true
is_none (Some k) = false

-- a unit by its application: out at the price of its Exit if it has one, else in; its years are those of its last Years,
-- or else those it was enrolled with
abbrev pub unit_said : Application → Option ℕ → Option ℕ → Row
unit_said a price years =
    record {
      enrolled = (new_unit a).enrolled;
      standing = record { years = or_else a.years years; inside = is_none price; exit = price };
    }

abbrev pub said_unit : List (ℕ × ℕ) → List (ℕ × ℕ) → ℕ → Application → Row
said_unit left years i a = unit_said a (last_for i None left) (last_for i None years)

-- the units numbered from n on
abbrev pub said_from : List (ℕ × ℕ) → List (ℕ × ℕ) → ℕ → List Application → List Row
said_from left years n [] = []
said_from left years n (a ∷ rest) = said_unit left years n a ∷ said_from left years (n + 1) rest

abbrev pub said_units : List Turn → List Row
said_units h = said_from (all_exits h) (all_years h) 0 (enrolments h)

-- The round that is open, or was last

-- the turns since the last opening of a round; turns latest first
abbrev pub opening : Saying → Bool
opening refused = false
opening (enrols a) = false
opening opens = true
opening (exits i price) = false
opening (serves i years) = false
opening steps_back = false
opening (closes f settled) = false

abbrev pub since_opening : List Turn → List Turn
since_opening [] = []
since_opening (t ∷ earlier) = cond (opening (saying t)) [] (t ∷ since_opening earlier)

-- an Exit as the ranking sees it: with the capacity, the years, the random number and the name of its unit
abbrev pub as_leaving : List Turn → ℕ × ℕ → Leaving
as_leaving h e =
    leaving e.0 (said_unit (all_exits h) (all_years h) e.0 (application_of (enrolments h) e.0)) e.1

-- the exits of that round which stand, in the order entered
abbrev pub round_exits : List Turn → List Leaving
round_exits h = map (as_leaving (struck h)) (all_exits (reverse (since_opening (kept_latest_first h))))
