-- What holds after every list of calls, from Open on. Assumes nothing.
use Rattle.std.specs.Prelude.{◌≡◌, ℕ, ◌+◌, ◌<◌, ◌≤◌, Bool, true, false, List, ◌∷◌, ◌++◌, map, length, Some, None}
use Rattle.std.specs.List.{AllByRecursion}
use Rattle.auction.specs.declared.calls.Call.{Call}
use Rattle.auction.specs.declared.calls.Figures.{Figures}
use Rattle.auction.specs.declared.calls.Turn.{Turn}
use Rattle.auction.specs.declared.clocks.Stage.TheVariants.{Settled}
use Rattle.auction.specs.Awards.{awarded_exits, is_awarded, award_of}
use Rattle.auction.specs.History.{refused, closes, saying, played, ended, struck, enrolled_kw, exits_kw, closings, floor_after, said_units, round_exits}
use Rattle.auction.specs.State.{State, priced, ranked_exits}
use Rattle.auction.specs.Steps.{opened, open_questions}
use Rattle.book.specs.Books.{unit_at, leaving}
use Rattle.clearing.specs.declared.settlement.Settlement.{Settlement}
use Rattle.clearing.specs.Grounds.{Settles}
use Rattle.clearing.specs.Sound.{Best}
use Rattle.curve.specs.Meaning.{Meaning, Laws}
use Rattle.curve.specs.Questions.{first_no}
use Rattle.curve.specs.Words.{within}
use Rattle.ranking.specs.Ahead.{price_ahead}
use Rattle.ranking.specs.declared.exits.Exit.{Exit}
use Rattle.ranking.specs.Laws.{Laws as OrderLaws}
use Rattle.ranking.specs.Rankings.{RanksExits}

-- P of each accepted Close of a history: of the turns before it, those after it, its figures, and whether it settled
abbrev pub EachClose : List Turn → (List Turn → List Turn → Figures → Bool → Type 0) → Type 0
EachClose h P =
    (before later : List Turn) (t : Turn) (f : Figures) (settled : Bool) → h ≡ before ++ t ∷ later → saying t ≡ closes f settled → P before later f settled

-- the floor of the accepted Close that these turns stand before
abbrev pub closing_floor : ℕ → ℕ → List Turn → ℕ
closing_floor top spread before = floor_after top spread (length (closings before) + 1)

-- Capacity in

pub record CapacityIn (m : Meaning) (top spread : ℕ) (h : List Turn) : Type 0 where
  -- with the exits standing it is what was enrolled
  pub accounted : EachClose h (λ before later f settled. f.capacity_in + exits_kw before ≡ enrolled_kw before)
  -- the demand is that at the floor
  pub demanded : EachClose h (λ before later f settled. f.demand ≡ m.demand (closing_floor top spread before))
  -- it is never above that of an earlier accepted Close
  pub never_rises : EachClose h (λ before later f settled. AllByRecursion (λ g. f.capacity_in ≤ g.capacity_in) (closings before))
  -- at floor 0 the Close settles
  pub at_floor_zero : EachClose h (λ before later f settled. closing_floor top spread before ≡ 0 → settled ≡ true)

-- Clearing

-- the settlement of an auction that settled: `exits` are the standing exits of its last round
pub record SettlementOf (m : Meaning) (ahead : Exit → Exit → Bool) (floor s0 : ℕ) (exits : List Exit) (s : State) : Type 0 where
  pub settlement : Settlement
  pub is_settled : s.stage ≡ Settled
  pub is_priced : priced s ≡ Some settlement
  pub is_ranking : RanksExits ahead exits (ranked_exits s)
  -- ground, stopping place and price are those of the clearing relation
  pub settles : Settles m floor s0 (ranked_exits s) settlement
  -- a unit still in is awarded its whole capacity with its years,
  pub in_awarded : (i : ℕ) → i < length s.book.units → (unit_at s.book i).standing.exit ≡ None → award_of s settlement i ≡ ((unit_at s.book i).enrolled.capacity, (unit_at s.book i).standing.years)
  -- and so is the unit of each exit up to the stopping place,
  pub exits_awarded : AllByRecursion (λ e. award_of s settlement e.unit ≡ (e.capacity, e.years)) (awarded_exits s settlement)
  -- and no other unit is awarded anything
  pub others_nothing : (i : ℕ) → is_awarded s settlement i ≡ false → award_of s settlement i ≡ (0, 0)
  -- no awarded unit left above the clearing price
  pub awarded_below : (i price : ℕ) → i < length s.book.units → is_awarded s settlement i ≡ true → (unit_at s.book i).standing.exit ≡ Some price → price ≤ settlement.price
  -- every other unit left, at or above the clearing price,
  pub others_left : (i : ℕ) → i < length s.book.units → is_awarded s settlement i ≡ false → (price : ℕ) × ((unit_at s.book i).standing.exit ≡ Some price) × (settlement.price ≤ price)
  -- and ranks behind every awarded exit
  pub others_behind : (i price : ℕ) → i < length s.book.units → is_awarded s settlement i ≡ false → (unit_at s.book i).standing.exit ≡ Some price → AllByRecursion (λ e. price_ahead ahead e (leaving i (unit_at s.book i) price) ≡ true) (awarded_exits s settlement)
  -- no stopping place from the last fit on gains the buyer more
  pub best : Best m floor s0 (ranked_exits s) settlement

-- a Close that settled
pub record SettledIn (h : List Turn) : Type 0 where
  pub before : List Turn
  pub later : List Turn
  pub at : Turn
  pub figures : Figures
  pub split : h ≡ before ++ at ∷ later
  pub settled : saying at ≡ closes figures true

pub record Clearing (m : Meaning) (ahead : Exit → Exit → Bool) (top spread : ℕ) (h : List Turn) (end : State) : Type 0 where
  -- an accepted Close settles exactly if its capacity in is within the demand at its floor
  pub settles_if_within : EachClose h (λ before later f settled. settled ≡ within m (closing_floor top spread before) f.capacity_in)
  -- and then every further call is refused, so that it is the first such Close and the only one that settles
  pub settles_once : EachClose h (λ before later f settled. settled ≡ true → AllByRecursion (λ t. saying t ≡ refused) later)
  -- nothing else settles an auction
  pub settles_by_close : end.stage ≡ Settled → SettledIn h
  -- and the settlement at the end is that of the relation
  pub settlement : EachClose h (λ before later f settled. settled ≡ true → SettlementOf m ahead (closing_floor top spread before) f.capacity_in (round_exits before) end)

-- Striking

-- two auctions alike, as far as their stage, book, settlement and awards go
pub record Alike (s t : State) : Type 0 where
  pub same_stage : s.stage ≡ t.stage
  pub same_round : s.round ≡ t.round
  pub same_book : s.book ≡ t.book
  pub same_price : priced s ≡ priced t
  pub same_awards : (settled : Settlement) (i : ℕ) → award_of s settled i ≡ award_of t settled i

abbrev pub calls_of : List Turn → List Call
calls_of h = map (λ t. t.call) h

pub record Striking (start : State) (h : List Turn) (end : State) : Type 0 where
  -- the kept calls, made from the same Open, are answered as they were
  pub same_answers : played start (calls_of (struck h)) ≡ struck h
  -- and end in an auction alike
  pub same_end : Alike (ended start (calls_of (struck h))) end
  -- the book is what the kept turns say
  pub book_said : end.book.units ≡ said_units (struck h)

pub record Promise (start : State) (h : List Turn) (end : State) : Type 0 where
  pub capacity_inside : CapacityIn start.curve start.top start.spread h
  pub clearing : Clearing start.curve start.ahead start.top start.spread h end
  pub striking : Striking start h end

-- of every Open that is not refused, every curve and tie order that keep their laws, and every list of calls
abbrev pub LawsOverCalls : Type 0
LawsOverCalls =
    (number top spread threshold : ℕ) (m : Meaning) (ahead : Exit → Exit → Bool) →
    Laws m → OrderLaws (λ e. e.unit) ahead → first_no (open_questions m top spread threshold) ≡ None →
    (calls : List Call) →
    Promise (opened number top spread threshold m ahead) (played (opened number top spread threshold m ahead) calls) (ended (opened number top spread threshold m ahead) calls)
