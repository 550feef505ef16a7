-- The records of a bid file by what they say. Assumes nothing.
use Rattle.std.specs.Prelude.{ℕ, Bool, true, false, cond, List, Some, None, Option, ◌==◌, nat_le}
use Rattle.bidfile.specs.declared.kind.Kind.{Kind}
use Rattle.bidfile.specs.declared.kind.Kind.TheVariants as kinds
use Rattle.bidfile.specs.declared.records.CurveChoice.{CurveChoice}
use Rattle.bidfile.specs.declared.records.CurveChoice.TheVariants.{Straight, Stepped}
use Rattle.bidfile.specs.declared.records.Due.{Due}
use Rattle.bidfile.specs.declared.records.Due.TheVariants as due
use Rattle.bidfile.specs.declared.records.ExitRecord.{ExitRecord}
use Rattle.bidfile.specs.declared.records.OrderChoice.{OrderChoice}
use Rattle.bidfile.specs.declared.records.OrderChoice.TheVariants.{ByRule, ByName}
use Rattle.bidfile.specs.declared.records.Record.{Record}
use Rattle.bidfile.specs.declared.records.Record.TheVariants.{Terms, Corner, Unit, Exit, Years, StepBack, Close}
use Rattle.bidfile.specs.declared.records.SideChoice.{SideChoice}
use Rattle.bidfile.specs.declared.records.SideChoice.TheVariants.{Taker, Maker}
use Rattle.bidfile.specs.declared.records.TermsRecord.{TermsRecord}
use Rattle.bidfile.specs.declared.records.UnitRecord.{UnitRecord}
use Rattle.bidfile.specs.declared.records.YearsRecord.{YearsRecord}
use Rattle.curve.specs.declared.corner.Corner.{Corner as CurveCorner}
use Rattle.std.specs.Borrow.{Bor}

-- a unit record, with the bytes of its name
pub record UnitItem : Type 0 where
  pub capacity : ℕ
  pub class : ℕ
  pub side : SideChoice
  pub years : ℕ
  pub random : ℕ
  pub bytes : List ℕ

pub data Item : Type 0 where
  terms : TermsRecord → Item
  corner : CurveCorner → Item
  unit : UnitItem → Item
  exit : ExitRecord → Item
  years : YearsRecord → Item
  step_back : Item
  close : Item

-- what a record says, by the bytes of what holds a name
abbrev pub unit_with : {N : Type 0} → (N → List ℕ) → UnitRecord N → UnitItem
unit_with bytes u =
    record { capacity = u.capacity; class = u.class; side = u.side; years = u.years; random = u.random; bytes = bytes u.name }

abbrev pub item_with : {N : Type 0} → (N → List ℕ) → Record N → Item
item_with bytes (Terms t) = terms t
item_with bytes (Corner c) = corner c
item_with bytes (Unit u) = unit (unit_with bytes u)
item_with bytes (Exit e) = exit e
item_with bytes (Years y) = years y
item_with bytes StepBack = step_back
item_with bytes Close = close

-- what a record that was handed out says
abbrev pub unit_item : UnitRecord (Bor (List ℕ)) → UnitItem
unit_item u = unit_with (λ name. name.now) u

abbrev pub item_of : Record (Bor (List ℕ)) → Item
item_of r = item_with (λ name. name.now) r

-- the kinds by their numbers
abbrev pub kind_number : Kind → ℕ
kind_number kinds.Terms = 1
kind_number kinds.Corner = 2
kind_number kinds.Unit = 3
kind_number kinds.Exit = 4
kind_number kinds.Years = 5
kind_number kinds.StepBack = 6
kind_number kinds.Close = 7

abbrev pub item_kind : Item → ℕ
item_kind (terms t) = 1
item_kind (corner c) = 2
item_kind (unit u) = 3
item_kind (exit e) = 4
item_kind (years y) = 5
item_kind step_back = 6
item_kind close = 7

-- the words of a record of a kind, its head word among them
abbrev pub size : ℕ → ℕ
size kind =
    cond (kind == 1) 5 (cond (kind == 2) 2 (cond (kind == 3) 7 (cond (kind == 4) 2 (cond (kind == 5) 2 1))))

-- the fields that select, by their numbers
abbrev pub curve_number : CurveChoice → ℕ
curve_number Straight = 0
curve_number Stepped = 1

abbrev pub order_number : OrderChoice → ℕ
order_number ByRule = 0
order_number ByName = 1

-- a taker is 0, a maker 1
abbrev pub side_number : SideChoice → ℕ
side_number Taker = 0
side_number Maker = 1

-- the one of two that a field of 0 or 1 selects
abbrev pub selected : {A : Type 0} → A → A → ℕ → Option A
selected zeroth first n = cond (n == 0) (Some zeroth) (cond (n == 1) (Some first) None)

-- the kinds of record that are in turn
abbrev pub in_turn : Due → ℕ → Bool
in_turn due.Terms kind = kind == 1
in_turn due.Corners kind = nat_le 2 kind
in_turn due.Units kind = nat_le 3 kind
in_turn due.Entries kind = nat_le 4 kind
in_turn due.Nothing kind = false

-- a file may end here, unless its first record has yet to come
abbrev pub may_end : Due → Bool
may_end due.Terms = false
may_end due.Corners = true
may_end due.Units = true
may_end due.Entries = true
may_end due.Nothing = true
