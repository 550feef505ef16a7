-- The text of a record, without its newline. Assumes nothing.
use Rattle.std.specs.Prelude.{ℕ, ◌+◌, ◌/◌, ◌%◌, Bool, cond, not, ◌&&◌, List, [], ◌∷◌, ◌++◌, take, drop, codes, decimal, ◌==◌, nat_le, nat_lt}
use Rattle.bidtext.specs.Letters.{space, mark}
use Rattle.bidfile.specs.declared.records.CurveChoice.{CurveChoice}
use Rattle.bidfile.specs.declared.records.CurveChoice.TheVariants.{Straight, Stepped}
use Rattle.bidfile.specs.declared.records.OrderChoice.{OrderChoice}
use Rattle.bidfile.specs.declared.records.OrderChoice.TheVariants.{ByRule, ByName}
use Rattle.bidfile.specs.declared.records.SideChoice.{SideChoice}
use Rattle.bidfile.specs.declared.records.SideChoice.TheVariants.{Taker, Maker}
use Rattle.bidfile.specs.Items.{Item, terms, corner, unit, exit, years, step_back, close}
use Rattle.std.specs.List.{flat_map, prefix_len, list_all}
use Rattle.bidtext.specs.Names.{is_hexed}

abbrev pub curve_word : CurveChoice → List ℕ
curve_word Straight = codes "straight"
curve_word Stepped = codes "stepped"

abbrev pub order_word : OrderChoice → List ℕ
order_word ByRule = codes "rule"
order_word ByName = codes "name"

abbrev pub side_word : SideChoice → List ℕ
side_word Taker = codes "taker"
side_word Maker = codes "maker"

abbrev pub class_word : ℕ → List ℕ
class_word n =
    cond (n == 0) (codes "existing")
    (cond (n == 1) (codes "refurbishing") (cond (n == 2) (codes "new") (cond (n == 3) (codes "demand") (decimal n))))

-- the two hexadecimal digits of a byte
abbrev pub hex_digit : ℕ → ℕ
hex_digit d = cond (nat_lt d 10) (48 + d) (55 + d)

abbrev pub hex_pair : ℕ → List ℕ
hex_pair b = hex_digit (b / 16) ∷ (hex_digit (b % 16) ∷ [])

-- how many marks a name begins with
abbrev pub marks : List ℕ → ℕ
marks name = prefix_len mark name

-- a name of at least one mark, then padding only, that does not begin with `hex:`
abbrev pub is_plain : List ℕ → Bool
is_plain name = not (is_hexed name) && (nat_le 1 (marks name) && list_all space (drop (marks name) name))

-- such a name without its padding, any other as hexadecimal digits
unfoldable pub name_word : List ℕ → List ℕ
name_word name = cond (is_plain name) (take (marks name) name) (codes "hex:" ++ flat_map hex_pair name)

abbrev pub line_text : Item → List ℕ
line_text (terms t) =
    codes "auction cap " ++ (decimal t.«cap»
    ++ (codes " spread " ++ (decimal t.spread
    ++ (codes " threshold " ++ (decimal t.threshold
    ++ (codes " curve " ++ (curve_word t.curve ++ (codes " order " ++ order_word t.order))))))))
line_text (corner c) = codes "corner " ++ (decimal c.quantity ++ (codes " " ++ decimal c.price))
line_text (unit u) =
    codes "unit " ++ (name_word u.bytes
    ++ (codes " " ++ (decimal u.capacity
    ++ (codes " " ++ (class_word u.class
    ++ (codes " " ++ (side_word u.side
    ++ (codes " years " ++ (decimal u.years ++ (codes " random " ++ decimal u.random))))))))))
line_text (exit e) = codes "exit " ++ (decimal e.unit ++ (codes " " ++ decimal e.price))
line_text (years y) = codes "years " ++ (decimal y.unit ++ (codes " " ++ decimal y.years))
line_text step_back = codes "back"
line_text close = codes "close"
