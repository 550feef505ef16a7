-- What the reader answers, against what is found in the file. Assumes nothing.
use Rattle.std.specs.Prelude.{◌≡◌, ℕ, ◌+◌, ◌*◌, ◌≤◌, cond, List, take, drop, Some, None, Ok, Err, Option, Result}
use Rattle.bidfile.specs.declared.fault.FileFault.{FileFault}
use Rattle.bidfile.specs.declared.fault.FileQuestion.{FileQuestion}
use Rattle.bidfile.specs.declared.fault.FileQuestion.TheVariants.{Kind, Words, Turn, Fields}
use Rattle.bidfile.specs.declared.records.Due.{Due}
use Rattle.bidfile.specs.declared.records.Placed.{Placed}
use Rattle.bidfile.specs.declared.records.Record.{Record}
use Rattle.bidfile.specs.Found.{Found, file_question, found, known_kind, later}
use Rattle.bidfile.specs.Items.{Item, item_of, item_kind, size, in_turn}
use Rattle.bidfile.specs.Layout.{layout}
use Rattle.bidfile.specs.Words.{words, kind_at}
use Rattle.std.specs.Borrow.{Bor}

-- the number of a fault's question
abbrev pub fault_number : FileFault → ℕ
fault_number f = file_question f.question

-- what a fault says: the number of its question, and its place
abbrev pub fault_of : FileFault → ℕ × ℕ
fault_of f = (fault_number f, f.place)

-- what the reader answers, by what it says
abbrev pub told : Result (Option Placed) FileFault → Result (Option (ℕ × Item)) (ℕ × ℕ)
told (Ok None) = Ok None
told (Ok (Some p)) = Ok (Some (p.place, item_of p.record))
told (Err f) = Err (fault_of f)

-- the reader goes on by the words of the record that it hands out, and not past the end; else it stays
abbrev pub Moved : List ℕ → ℕ → ℕ → Result (Option Placed) FileFault → Type 0
Moved bytes at end (Ok None) = end ≡ at
Moved bytes at end (Ok (Some p)) =
    (found bytes end ≡ later (found bytes at)) × (end ≡ at + size (item_kind (item_of p.record))) × (end ≤ words bytes)
Moved bytes at end (Err f) = end ≡ at

-- a fault of the whole file has the place 0
abbrev pub WholeFile : Result (Unit {0}) FileFault → Type 0
WholeFile (Ok u) = Unit {0}
WholeFile (Err f) = f.place ≡ 0

-- questions 24, 25 and 26 of what is found at a place, in their order
abbrev pub asked : Due → Found → Result (Unit {0}) FileQuestion
asked due f =
    cond (known_kind f.kind) (cond f.whole (cond (in_turn due f.kind) (Ok tt) (Err Turn)) (Err Words)) (Err Kind)

-- and then question 27: the record, if its fields are right
abbrev pub read_out : Result (Unit {0}) FileQuestion → Option Item → Result Item FileQuestion
read_out (Err q) item = Err q
read_out (Ok u) None = Err Fields
read_out (Ok u) (Some item) = Ok item

-- a record or a question, by what they say
abbrev pub told_record : Result (Record (Bor (List ℕ))) FileQuestion → Result Item FileQuestion
told_record (Ok r) = Ok (item_of r)
told_record (Err q) = Err q

-- a record with its place or a fault, by what they say
abbrev pub told_one : Result Placed FileFault → Result (Option (ℕ × Item)) (ℕ × ℕ)
told_one (Ok p) = Ok (Some (p.place, item_of p.«record»))
told_one (Err f) = Err (fault_of f)

-- where the questions are answered "yes", the words of the record are there
abbrev pub There : {A : Type 0} → List ℕ → ℕ → Result A FileQuestion → Type 0
There bytes at (Ok a) = at + size (kind_at bytes at) ≤ words bytes
There bytes at (Err q) = Unit {0}

-- the bytes of the file from a place on are those of the record, as it is written
abbrev pub Stands : List ℕ → ℕ → Item → Type 0
Stands bytes place item = take (4 * size (item_kind item)) (drop (4 * place) bytes) ≡ layout item

abbrev pub Laid : List ℕ → Result (Option Placed) FileFault → Type 0
Laid bytes (Ok None) = Unit {0}
Laid bytes (Ok (Some p)) = Stands bytes p.place (item_of p.«record»)
Laid bytes (Err f) = Unit {0}

-- a record that was read at a place: its kind, its words and its bytes are those that stand there
pub record Taken (bytes : List ℕ) (at : ℕ) (p : Placed) : Type 0 where
  pub place : p.place ≡ at
  pub kind : item_kind (item_of p.«record») ≡ kind_at bytes at
  pub room : at + size (kind_at bytes at) ≤ words bytes
  pub laid : Stands bytes at (item_of p.«record»)

abbrev pub TakenOrNot : List ℕ → ℕ → Result Placed FileFault → Type 0
TakenOrNot bytes at (Ok p) = Taken bytes at p
TakenOrNot bytes at (Err f) = Unit {0}
