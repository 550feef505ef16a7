-- A record that an auction hears, part by part: it begins, the record's call is made, the next round is opened. Assumes nothing.
use Rattle.std.specs.Prelude.{◌≡◌, ℕ, Bool, true, false, cond, length, None, Option, ◌==◌, nat_le}
use Rattle.auction.specs.declared.clocks.Stage.{Stage}
use Rattle.auction.specs.declared.clocks.Stage.TheVariants.{Enrolling, Open, Shut, Settled}
use Rattle.auction.specs.State.{State, stamp_of}
use Rattle.auction.specs.Steps.{enrolled, begun, exited, served, went_back, closed, went_on}
use Rattle.bidfile.specs.Items.{Item, terms, corner, unit, exit, years, step_back, close, item_kind}
use Rattle.listing.specs.declared.line.Line.{Line}
use Rattle.rehearsal.specs.Events.{application}
use Rattle.rehearsal.specs.Saying.{reply}

-- the auction after a Begin, or a Next, with its own clock
unfoldable pub after_begin : State → State
after_begin s = (begun s (stamp_of s)).0

unfoldable pub after_next : State → State
after_next s = (went_on s (stamp_of s)).0

-- the same, made only in the stage that it is for
abbrev pub begun_in : State → Stage → State
begun_in s Enrolling = after_begin s
begun_in s Open = s
begun_in s Shut = s
begun_in s Settled = s

abbrev pub gone_on : State → Stage → State
gone_on s Enrolling = s
gone_on s Open = s
gone_on s Shut = after_next s
gone_on s Settled = s

abbrev pub begun_for : State → Item → Stage → State
begun_for s item stage = cond (nat_le 4 (item_kind item)) (begun_in s stage) s

-- the call of a record: the auction after it, and the first line of its answer
unfoldable pub called : ℕ → State → Item → State × Option Line
called at s (terms t) = (s, None)
called at s (corner c) = (s, None)
called at s (unit u) = reply at s (enrolled s (stamp_of s) (application u))
called at s (exit e) = reply at s (exited s (stamp_of s) e.unit e.price)
called at s (years y) = reply at s (served s (stamp_of s) y.unit y.years)
called at s step_back = reply at s (went_back s (stamp_of s))
called at s close = reply at s (closed s (stamp_of s))

-- the kinds of record whose call is made in a stage
abbrev pub has_call : Stage → ℕ → Bool
has_call Enrolling kind = kind == 3
has_call Open kind = nat_le 4 kind
has_call Shut kind = false
has_call Settled kind = false

-- a name has eight bytes
abbrev pub Eight : Item → Type 0
Eight (terms t) = Unit {0}
Eight (corner c) = Unit {0}
Eight (unit u) = length u.bytes ≡ 8
Eight (exit e) = Unit {0}
Eight (years y) = Unit {0}
Eight step_back = Unit {0}
Eight close = Unit {0}

abbrev pub Callable : Stage → Item → Type 0
Callable stage item = (has_call stage (item_kind item) ≡ true) × Eight item

-- the kinds of record that an auction in a stage can hear
abbrev pub can_hear : Stage → ℕ → Bool
can_hear Enrolling kind = nat_le 3 kind
can_hear Open kind = nat_le 4 kind
can_hear Shut kind = false
can_hear Settled kind = false

abbrev pub Hearable : Stage → Item → Type 0
Hearable stage item = (can_hear stage (item_kind item) ≡ true) × Eight item
