-- What is kept of a file of words as text: its records up to its damage, and the damage. Assumes nothing.
use Rattle.std.specs.Prelude.{ℕ, List, [], ◌∷◌, ◌++◌, Some, None, Ok, Err, string_bytes, Option, Result}
use Rattle.bidfile.specs.declared.fault.FileFault.{FileFault}
use Rattle.bidfile.specs.Found.{Found, found, known_kind, is_some, length_questions}
use Rattle.bidfile.specs.Items.{Item}
use Rattle.bidfile.specs.Reading.{fault_of}
use Rattle.curve.specs.Questions.{Question, first_no}
use Rattle.std.specs.List.{flat_map}
use Rattle.bidtext.specs.declared.listed.Listed.{Listed}
use Rattle.bidtext.specs.Texts.{line_text}

-- the questions whose "no" is damage; whose turn it is, question 26, is not asked
abbrev pub damage_questions : Found → List Question
damage_questions f =
    record { number = 24; yes = known_kind f.kind } ∷ (record { number = 25; yes = f.whole } ∷ (record { number = 27; yes = is_some f.item } ∷ []))

-- the next record with its place, none at the end, or the damage
abbrev pub handed_any : List Found → Result (Option (ℕ × Item)) (ℕ × ℕ)
handed_any [] = Ok None
handed_any (f ∷ fs) =
    elim (first_no (damage_questions f)) [ Some n ↦ Err (n, f.place) | None ↦ elim f.item [ None ↦ Ok None | Some item ↦ Ok (Some (f.place, item)) ] ]

-- a record before what is kept after it
abbrev pub kept_with : Result (Option (ℕ × Item)) (ℕ × ℕ) → List Item × Option (ℕ × ℕ) → List Item × Option (ℕ × ℕ)
kept_with (Err d) rest = ([], Some d)
kept_with (Ok None) rest = ([], None)
kept_with (Ok (Some p)) rest = (p.1 ∷ rest.0, rest.1)

abbrev pub kept : List Found → List Item × Option (ℕ × ℕ)
kept [] = ([], None)
kept (f ∷ fs) = kept_with (handed_any (f ∷ fs)) (kept fs)

-- question 23 comes first, of the whole file
abbrev pub length_kept : Option ℕ → List ℕ → List Item × Option (ℕ × ℕ)
length_kept (Some n) bytes = ([], Some (n, 0))
length_kept None bytes = kept (found bytes 0)

unfoldable pub file_kept : List ℕ → List Item × Option (ℕ × ℕ)
file_kept bytes = length_kept (first_no (length_questions bytes)) bytes

-- a line with its newline
abbrev pub text_line : Item → List ℕ
text_line item = line_text item ++ (10 ∷ [])

-- text, and records yet to be written behind it
abbrev pub with_text : List ℕ → List Item × Option (ℕ × ℕ) → List ℕ × Option (ℕ × ℕ)
with_text bytes k = (bytes ++ flat_map text_line k.0, k.1)

abbrev pub fault_said : Option FileFault → Option (ℕ × ℕ)
fault_said None = None
fault_said (Some f) = Some (fault_of f)

-- what is listed, by what it says
abbrev pub listed_said : Listed → List ℕ × Option (ℕ × ℕ)
listed_said l = (string_bytes l.text, fault_said l.fault)
