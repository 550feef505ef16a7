-- The words of a bid file, which are four bytes each, big-endian, and are counted from 0. Assumes nothing.
use Rattle.std.specs.Prelude.{ℕ, ◌+◌, ◌*◌, ◌/◌, ◌%◌, List, length, slice_index}

-- how many words there are
abbrev pub words : List ℕ → ℕ
words bytes = length bytes / 4

-- the word at a place
abbrev pub word_at : List ℕ → ℕ → ℕ
word_at bytes at =
    slice_index bytes (4 * at) * 16777216 + slice_index bytes (4 * at + 1) * 65536 + slice_index bytes (4 * at + 2) * 256 + slice_index bytes (4 * at + 3)

-- the top 4 bits of a word are its kind, the other 28 its value
abbrev pub word_kind : ℕ → ℕ
word_kind w = w / 268435456

abbrev pub word_value : ℕ → ℕ
word_value w = w % 268435456

abbrev pub kind_at : List ℕ → ℕ → ℕ
kind_at bytes at = word_kind (word_at bytes at)

abbrev pub value_at : List ℕ → ℕ → ℕ
value_at bytes at = word_value (word_at bytes at)
