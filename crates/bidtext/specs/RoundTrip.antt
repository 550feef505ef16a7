-- Text that is read back. Assumes nothing.
use Rattle.std.specs.Prelude.{◌≡◌, ℕ, List, Some, None, Ok, Err, Option, Result}
use Rattle.bidfile.specs.Items.{Item, UnitItem, unit_with, item_with}
use Rattle.bidfile.specs.Layout.{Fits}
use Rattle.bidtext.specs.declared.expected.Expected.{Expected}
use Rattle.bidfile.specs.declared.records.Record.{Record}
use Rattle.bidfile.specs.declared.records.UnitRecord.{UnitRecord}
use Rattle.bidtext.specs.Lines.{line_record}
use Rattle.bidtext.specs.Texts.{line_text}

-- what a record that was read says
abbrev pub own_unit : UnitRecord (List ℕ) → UnitItem
own_unit u = unit_with (λ name. name) u

abbrev pub own_item : Record (List ℕ) → Item
own_item r = item_with (λ name. name) r

-- what a line says, by its record
abbrev pub line_said : Result (Option (Record (List ℕ))) Expected → Result (Option Item) Expected
line_said (Ok None) = Ok None
line_said (Ok (Some r)) = Ok (Some (own_item r))
line_said (Err e) = Err e

-- the text of each record that can be written is read as that record
abbrev pub TextReadsBack : Type 0
TextReadsBack = (item : Item) → Fits item → line_said (line_record (line_text item)) ≡ Ok (Some item)

-- a record that was read can be written
abbrev pub Fitting : Result (Option (Record (List ℕ))) Expected → Type 0
Fitting (Ok None) = Unit {0}
Fitting (Ok (Some r)) = Fits (own_item r)
Fitting (Err e) = Unit {0}
