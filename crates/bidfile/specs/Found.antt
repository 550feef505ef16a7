-- What is found in a bid file, place by place, and the questions put to it. Assumes nothing.
use Rattle.std.specs.Prelude.{◌≡◌, ℕ, zero, suc, ◌+◌, ◌-◌, ◌*◌, ◌%◌, Bool, true, false, cond, ◌&&◌, List, [], ◌∷◌, length, take, drop, Some, None, Ok, Err, Option, Result, MatchResult, ◌==◌, nat_le, nat_lt}
use Rattle.bidfile.specs.declared.fault.FileQuestion.{FileQuestion}
use Rattle.bidfile.specs.declared.fault.FileQuestion.TheVariants.{Length, Kind, Words, Turn, Fields}
use Rattle.bidfile.specs.declared.kind.Kind.{Kind as RecordKind}
use Rattle.bidfile.specs.declared.records.CurveChoice.TheVariants.{Straight, Stepped}
use Rattle.bidfile.specs.declared.records.Due.{Due}
use Rattle.bidfile.specs.declared.records.OrderChoice.TheVariants.{ByRule, ByName}
use Rattle.bidfile.specs.declared.records.SideChoice.TheVariants.{Taker, Maker}
use Rattle.bidfile.specs.Items.{Item, terms, corner, unit, exit, years, step_back, close, size, kind_number, selected, in_turn, may_end}
use Rattle.bidfile.specs.Words.{words, kind_at, value_at}
use Rattle.curve.specs.Questions.{Question, first_no}

-- each question by its number
abbrev pub file_question : FileQuestion → ℕ
file_question Length = 23
file_question Kind = 24
file_question Words = 25
file_question Turn = 26
file_question Fields = 27

-- question 23, of the whole file
abbrev pub length_questions : List ℕ → List Question
length_questions bytes = record { number = 23; yes = length bytes % 4 == 0 && nat_le (length bytes) 65532 } ∷ []

abbrev pub known_kind : ℕ → Bool
known_kind kind = nat_le 1 kind && nat_le kind 7

-- the kind that a number says, or question 24
abbrev pub KindOf : ℕ → Result RecordKind FileQuestion → Type 0
KindOf n r = MatchResult r (λ kind. kind_number kind ≡ n) (λ question. (question ≡ Kind) × (known_kind n ≡ false))

-- n words from a place on have kind 0
abbrev pub plain_words : ℕ → List ℕ → ℕ → Bool
plain_words zero bytes at = true
plain_words (suc n) bytes at = kind_at bytes at == 0 && plain_words n bytes (at + 1)

-- the operands of a record of a kind that have kind 0: all but the two words of a name
abbrev pub operands : ℕ → ℕ
operands kind = cond (kind == 3) 4 (size kind - 1)

-- all words of the record are there, and its operands are of kind 0
abbrev pub whole_at : List ℕ → ℕ → Bool
whole_at bytes at =
    nat_le (at + size (kind_at bytes at)) (words bytes) && plain_words (operands (kind_at bytes at)) bytes (at + 1)

-- a record of each kind that stands at a place, if its fields are right
abbrev pub terms_at : List ℕ → ℕ → Option Item
terms_at bytes at =
    elim (selected Straight Stepped (value_at bytes (at + 3))) [ None ↦ None | Some curve ↦ elim (selected ByRule ByName (value_at bytes (at + 4))) [ None ↦ None | Some order ↦ Some (terms (record { «cap» = value_at bytes at; spread = value_at bytes (at + 1); threshold = value_at bytes (at + 2); curve = curve; order = order })) ] ]

abbrev pub corner_at : List ℕ → ℕ → Option Item
corner_at bytes at = Some (corner (record { quantity = value_at bytes at; price = value_at bytes (at + 1) }))

-- the eight bytes of a name, from a word on
abbrev pub name_at : List ℕ → ℕ → List ℕ
name_at bytes at = take 8 (drop (4 * at) bytes)

abbrev pub unit_at : List ℕ → ℕ → Option Item
unit_at bytes at =
    elim (selected Taker Maker (value_at bytes (at + 2))) [ None ↦ None | Some side ↦ Some (unit (record { capacity = value_at bytes at; class = value_at bytes (at + 1); side = side; years = value_at bytes (at + 3); random = value_at bytes (at + 4); bytes = name_at bytes (at + 5) })) ]

abbrev pub exit_at : List ℕ → ℕ → Option Item
exit_at bytes at = Some (exit (record { unit = value_at bytes at; price = value_at bytes (at + 1) }))

abbrev pub years_at : List ℕ → ℕ → Option Item
years_at bytes at = Some (years (record { unit = value_at bytes at; years = value_at bytes (at + 1) }))

-- a record of one word, whose value is 0
abbrev pub bare_at : Item → List ℕ → ℕ → Option Item
bare_at item bytes at = cond (value_at bytes at == 0) (Some item) None

abbrev pub item_at : List ℕ → ℕ → Option Item
item_at bytes at =
    cond (kind_at bytes at == 1) (terms_at bytes at)
    (cond (kind_at bytes at == 2) (corner_at bytes at)
    (cond (kind_at bytes at == 3) (unit_at bytes at)
    (cond (kind_at bytes at == 4) (exit_at bytes at)
    (cond (kind_at bytes at == 5) (years_at bytes at)
    (cond (kind_at bytes at == 6) (bare_at step_back bytes at) (bare_at close bytes at))))))

-- what is found at a place: the kind there, whether the words of such a record are right, and the record, if its fields are
pub record Found : Type 0 where
  pub place : ℕ
  pub kind : ℕ
  pub whole : Bool
  pub item : Option Item

abbrev pub found_at : List ℕ → ℕ → Found
found_at bytes at = record { place = at; kind = kind_at bytes at; whole = whole_at bytes at; item = item_at bytes at }

-- at most n records, from a place on, each where the one before it ends
abbrev pub found_from : ℕ → List ℕ → ℕ → List Found
found_from zero bytes at = []
found_from (suc n) bytes at =
    cond (nat_lt at (words bytes)) (found_at bytes at ∷ found_from n bytes (at + size (kind_at bytes at))) []

-- all that is found from a place on
unfoldable pub found : List ℕ → ℕ → List Found
found bytes at = found_from (words bytes - at) bytes at

abbrev pub is_some : {A : Type 0} → Option A → Bool
is_some None = false
is_some (Some a) = true

-- the questions of a record, in their order
abbrev pub record_questions : Due → Found → List Question
record_questions due f =
    record { number = 24; yes = known_kind f.kind }
    ∷ (record { number = 25; yes = f.whole }
    ∷ (record { number = 26; yes = in_turn due f.kind } ∷ (record { number = 27; yes = is_some f.item } ∷ [])))

-- what the reader hands out of what is found: a record with its place, none at the end of the file, or the number of the first
-- question that is answered "no" with its place; where the first record has yet to come, the end is out of turn
abbrev pub handed : Due → List Found → Result (Option (ℕ × Item)) (ℕ × ℕ)
handed due [] = cond (may_end due) (Ok None) (Err (26, 0))
handed due (f ∷ fs) =
    elim (first_no (record_questions due f)) [ Some n ↦ Err (n, f.place) | None ↦ elim f.item [ None ↦ Ok None | Some item ↦ Ok (Some (f.place, item)) ] ]

-- what is found after the first
abbrev pub later : List Found → List Found
later [] = []
later (f ∷ fs) = fs
