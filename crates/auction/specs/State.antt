-- What an auction is at any moment, as far as its calls can tell. Assumes nothing.
use Rattle.std.specs.Prelude.{ℕ, ◌-◌, Bool, true, false, ◌&&◌, List, Option, ◌==◌}
use Rattle.auction.specs.declared.clocks.Stage.{Stage}
use Rattle.auction.specs.declared.clocks.Stage.TheVariants.{Enrolling, Open, Shut, Settled}
use Rattle.auction.specs.declared.clocks.Stamp.{Stamp}
use Rattle.book.specs.Books.{Books, capacity_inside, exits_up_to}
use Rattle.book.specs.declared.terms.Terms.{Terms}
use Rattle.clearing.specs.declared.settlement.Settlement.{Settlement}
use Rattle.clearing.specs.Finding.{outcome_of}
use Rattle.curve.specs.Meaning.{Meaning}
use Rattle.ranking.specs.Ahead.{price_ahead}
use Rattle.ranking.specs.declared.exits.Exit.{Exit}
use Rattle.ranking.specs.Rankings.{ranking_of}

-- `top` is the cap of the present round; `curve` and `ahead` are what the demand curve and the tie order mean
pub record State : Type 0 where
  pub number : ℕ
  pub stage : Stage
  pub round : ℕ
  pub top : ℕ
  pub spread : ℕ
  pub threshold : ℕ
  pub book : Books
  pub curve : Meaning
  pub ahead : Exit → Exit → Bool

-- the floor of the present round
abbrev pub floor_of : State → ℕ
floor_of s = s.top - s.spread

abbrev pub terms_of : State → Terms
terms_of s = record { «cap» = s.top; floor = floor_of s; threshold = s.threshold }

-- the capacity in: that of the units that have not left
abbrev pub in_of : State → ℕ
in_of s = capacity_inside s.book.units

-- this round's exits, in their ranking
abbrev pub ranked_exits : State → List Exit
ranked_exits s = ranking_of (price_ahead s.ahead) (exits_up_to s.top 0 s.book.units)

-- how the round settles if it is closed as things stand, or none if it does not clear
abbrev pub priced : State → Option Settlement
priced s = outcome_of s.curve (floor_of s) (in_of s) (ranked_exits s)

abbrev pub same_stage : Stage → Stage → Bool
same_stage Enrolling Enrolling = true
same_stage Enrolling Open = false
same_stage Enrolling Shut = false
same_stage Enrolling Settled = false
same_stage Open Enrolling = false
same_stage Open Open = true
same_stage Open Shut = false
same_stage Open Settled = false
same_stage Shut Enrolling = false
same_stage Shut Open = false
same_stage Shut Shut = true
same_stage Shut Settled = false
same_stage Settled Enrolling = false
same_stage Settled Open = false
same_stage Settled Shut = false
same_stage Settled Settled = true

-- a clock of this stage with these numbers is the auction's own
abbrev pub current : State → Stage → Stamp → Bool
current s stage stamp = same_stage s.stage stage && (s.number == stamp.number && s.round == stamp.round)

-- the numbers on the auction's own clock
abbrev pub stamp_of : State → Stamp
stamp_of s = record { number = s.number; round = s.round }
