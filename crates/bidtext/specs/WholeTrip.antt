-- Whole files there and back. Assumes nothing.
use Rattle.std.specs.Prelude.{◌≡◌, ◌≤◌, List, length, None, Ok}
use Rattle.bidfile.specs.Items.{Item}
use Rattle.bidfile.specs.Layout.{Fits, layout}
use Rattle.std.specs.List.{flat_map, AllByRecursion}
use Rattle.bidtext.specs.Files.{text_items}
use Rattle.bidtext.specs.Kept.{file_kept, text_line}

-- of words that were written for records, all is kept and nothing is damage, if the file is not too long
abbrev pub WordsKept : Type 0
WordsKept =
    (items : List Item) → AllByRecursion Fits items → length (flat_map layout items) ≤ 65532 → file_kept (flat_map layout items) ≡ (items, None)

-- the lines of records are read as these records
abbrev pub LinesRead : Type 0
LinesRead = (items : List Item) → AllByRecursion Fits items → text_items (flat_map text_line items) ≡ Ok items
