-- How records are written. Assumes nothing.
use Rattle.std.specs.Prelude.{◌≡◌, ℕ, ◌+◌, ◌*◌, ◌/◌, ◌%◌, ◌<◌, true, List, [], ◌∷◌, ◌++◌, length, Some}
use Rattle.std.specs.List.{flat_map, AllByRecursion}
use Rattle.bidfile.specs.Found.{Found, found}
use Rattle.bidfile.specs.Items.{Item, terms, corner, unit, exit, years, step_back, close, item_kind, size, curve_number, order_number, side_number}

-- the four bytes of a word, the highest first
abbrev pub word_bytes : ℕ → List ℕ
word_bytes w = w / 16777216 ∷ (w / 65536 % 256 ∷ (w / 256 % 256 ∷ (w % 256 ∷ [])))

-- a head word of a kind, with a value
abbrev pub head : ℕ → ℕ → ℕ
head kind value = kind * 268435456 + value

-- the words of a record; those of a unit without its name
abbrev pub words_of : Item → List ℕ
words_of (terms t) =
    head 1 t.«cap» ∷ (t.spread ∷ (t.threshold ∷ (curve_number t.curve ∷ (order_number t.order ∷ []))))
words_of (corner c) = head 2 c.quantity ∷ (c.price ∷ [])
words_of (unit u) = head 3 u.capacity ∷ (u.class ∷ (side_number u.side ∷ (u.years ∷ (u.random ∷ []))))
words_of (exit e) = head 4 e.unit ∷ (e.price ∷ [])
words_of (years y) = head 5 y.unit ∷ (y.years ∷ [])
words_of step_back = head 6 0 ∷ []
words_of close = head 7 0 ∷ []

-- what follows the words: the eight bytes of a unit's name as they are
abbrev pub tail_of : Item → List ℕ
tail_of (terms t) = []
tail_of (corner c) = []
tail_of (unit u) = u.bytes
tail_of (exit e) = []
tail_of (years y) = []
tail_of step_back = []
tail_of close = []

-- the bytes of a record
abbrev pub layout : Item → List ℕ
layout item = flat_map word_bytes (words_of item) ++ tail_of item

-- the values of a record, which must have 28 bits
abbrev pub values_of : Item → List ℕ
values_of (terms t) = t.«cap» ∷ (t.spread ∷ (t.threshold ∷ []))
values_of (corner c) = c.quantity ∷ (c.price ∷ [])
values_of (unit u) = u.capacity ∷ (u.class ∷ (u.years ∷ (u.random ∷ [])))
values_of (exit e) = e.unit ∷ (e.price ∷ [])
values_of (years y) = y.unit ∷ (y.years ∷ [])
values_of step_back = []
values_of close = []

-- a name has eight bytes
abbrev pub Named : Item → Type 0
Named (terms t) = Unit {0}
Named (corner c) = Unit {0}
Named (unit u) = (length u.bytes ≡ 8) × AllByRecursion (λ b. b < 256) u.bytes
Named (exit e) = Unit {0}
Named (years y) = Unit {0}
Named step_back = Unit {0}
Named close = Unit {0}

-- a record that can be written
pub record Fits (item : Item) : Type 0 where
  pub values : AllByRecursion (λ v. v < 268435456) (values_of item)
  pub named : Named item

-- records as they are found, one after the other from a place on
abbrev pub in_places : ℕ → List Item → List Found
in_places at [] = []
in_places at (item ∷ items) =
    record { place = at; kind = item_kind item; whole = true; item = Some item } ∷ in_places (at + size (item_kind item)) items

-- records that are written one after the other are found again, all of them, in that order, and nothing else
abbrev pub ReadsBack : Type 0
ReadsBack = (items : List Item) → AllByRecursion Fits items → found (flat_map layout items) 0 ≡ in_places 0 items
