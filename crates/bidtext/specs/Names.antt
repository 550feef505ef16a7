-- The names of units, eight bytes each, as they are written in a field. Assumes nothing.
use Rattle.std.specs.Prelude.{ℕ, ◌+◌, ◌-◌, ◌*◌, Bool, cond, ◌&&◌, List, [], ◌∷◌, length, take, drop, Ok, Err, codes, Result, ◌==◌, nat_le, nat_lt, slice_index, slice_index_or}
use Rattle.bidtext.specs.Letters.{hexadecimal, mark}
use Rattle.std.specs.List.{list_all}
use Rattle.std.specs.Str.{bytes_eq}
use Rattle.bidtext.specs.declared.expected.Expected.{Expected}
use Rattle.bidtext.specs.declared.expected.Expected.TheVariants as expected

-- a name padded with spaces to its eight bytes
abbrev pub padded : List ℕ → List ℕ
padded f =
    slice_index_or f 0 32 ∷ (slice_index_or f 1 32 ∷ (slice_index_or f 2 32 ∷ (slice_index_or f 3 32 ∷ (slice_index_or f 4 32 ∷ (slice_index_or f 5 32 ∷ (slice_index_or f 6 32 ∷ (slice_index_or f 7 32 ∷ [])))))))

-- a field that begins with `hex:`
abbrev pub is_hexed : List ℕ → Bool
is_hexed f = bytes_eq (codes "hex:") (take 4 f)

-- the value of a hexadecimal digit, of either case
abbrev pub hex_value : ℕ → ℕ
hex_value b = cond (nat_lt b 65) (b - 48) (cond (nat_lt b 97) (b - 55) (b - 87))

-- the byte that the digits at 2 k and 2 k + 1 write
abbrev pub hex_byte : List ℕ → ℕ → ℕ
hex_byte ds k = 16 * hex_value (slice_index ds (2 * k)) + hex_value (slice_index ds (2 * k + 1))

abbrev pub hex_name : List ℕ → Result (List ℕ) Expected
hex_name ds =
    cond (length ds == 16 && list_all hexadecimal ds) (Ok (hex_byte ds 0 ∷ (hex_byte ds 1 ∷ (hex_byte ds 2 ∷ (hex_byte ds 3 ∷ (hex_byte ds 4 ∷ (hex_byte ds 5 ∷ (hex_byte ds 6 ∷ (hex_byte ds 7 ∷ []))))))))) (Err expected.Name)

abbrev pub plain_name : List ℕ → Result (List ℕ) Expected
plain_name f = cond (nat_le 1 (length f) && (nat_le (length f) 8 && list_all mark f)) (Ok (padded f)) (Err expected.Name)

-- the eight bytes that a field writes
unfoldable pub name_in : List ℕ → Result (List ℕ) Expected
name_in f = cond (is_hexed f) (hex_name (drop 4 f)) (plain_name f)
