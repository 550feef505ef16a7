-- Whole texts, and the words that they write. Assumes nothing.
use Rattle.std.specs.Prelude.{◌≡◌, ℕ, ◌+◌, List, [], ◌∷◌, ◌++◌, Some, None, Ok, Err, vec_items, Option, Result, Vec, ◌==◌}
use Rattle.bidfile.specs.Found.{found}
use Rattle.bidfile.specs.Items.{Item}
use Rattle.bidfile.specs.Layout.{Fits, layout, in_places}
use Rattle.std.specs.declared.alloc.Global.{Global}
use Rattle.std.specs.List.{flat_map, AllByRecursion, slice_split}
use Rattle.bidtext.specs.declared.expected.Expected.{Expected}
use Rattle.bidtext.specs.declared.faults.TextFault.{TextFault}
use Rattle.bidtext.specs.declared.faults.TextFault.TheVariants.{Line, Memory}
use Rattle.bidtext.specs.Lines.{line_record}
use Rattle.bidtext.specs.RoundTrip.{line_said}

-- a text cut at its newlines
abbrev pub rows : List ℕ → List (List ℕ)
rows bytes = slice_split (λ b. b == 10) bytes

-- the record of a line, if it has one, as a list
abbrev pub listed : Result (Option Item) Expected → Result (List Item) Expected
listed (Ok None) = Ok []
listed (Ok (Some item)) = Ok (item ∷ [])
listed (Err e) = Err e

abbrev pub line_items : List ℕ → Result (List Item) Expected
line_items line = listed (line_said (line_record line))

-- a line and what comes after it; a line that cannot be read goes with its number
abbrev pub then_lines : ℕ → Result (List Item) Expected → Result (List Item) (ℕ × Expected) → Result (List Item) (ℕ × Expected)
then_lines n (Err e) rest = Err (n, e)
then_lines n (Ok xs) (Ok ys) = Ok (xs ++ ys)
then_lines n (Ok xs) (Err f) = Err f

abbrev pub items_from : ℕ → List (List ℕ) → Result (List Item) (ℕ × Expected)
items_from n [] = Ok []
items_from n (line ∷ lines) = then_lines n (line_items line) (items_from (n + 1) lines)

-- the records of a text, or the first line that cannot be read, with what was expected there
unfoldable pub text_items : List ℕ → Result (List Item) (ℕ × Expected)
text_items text = items_from 1 (rows text)

-- words that were written for records: a reader finds these again, and nothing else
pub record WordsOf (items : List Item) (words : List ℕ) : Type 0 where
  pub fit : AllByRecursion Fits items
  pub words_are : words ≡ flat_map layout items
  pub found_are : found words 0 ≡ in_places 0 items

-- the words before and after a line was added: those of its records come after the others
abbrev pub LineAdded : List ℕ → ℕ → List ℕ → List ℕ → Result (Unit {0}) TextFault → Type 0
LineAdded line n before after (Ok u) =
    (items : List Item) × (line_items line ≡ Ok items) × AllByRecursion Fits items × (after ≡ before ++ flat_map layout items)
LineAdded line n before after (Err (Line m e)) = (m ≡ n) × (line_items line ≡ Err e)
LineAdded line n before after (Err Memory) = Unit {0}

-- what is answered for a text: the words of its records, or its first line that cannot be read
abbrev pub TextRead : List ℕ → Result (Vec ℕ Global) TextFault → Type 0
TextRead text (Ok words) = (items : List Item) × (text_items text ≡ Ok items) × WordsOf items (vec_items words)
TextRead text (Err (Line n e)) = text_items text ≡ Err (n, e)
TextRead text (Err Memory) = Unit {0}

-- what is answered for the lines of records: their words
abbrev pub TextOf : List Item → Result (Vec ℕ Global) TextFault → Type 0
TextOf items (Ok words) = WordsOf items (vec_items words)
TextOf items (Err (Line n e)) = ⊥
TextOf items (Err Memory) = Unit {0}
