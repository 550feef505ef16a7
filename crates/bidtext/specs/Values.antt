-- What single fields say: numbers, and words of which one is chosen. Assumes nothing.
use Rattle.std.specs.Prelude.{ℕ, ◌+◌, ◌-◌, ◌*◌, Bool, cond, ◌&&◌, List, [], ◌∷◌, length, Ok, Err, codes, Result, ◌==◌, nat_le, nat_lt}
use Rattle.bidtext.specs.Letters.{digit}
use Rattle.std.specs.List.{list_all}
use Rattle.std.specs.Str.{bytes_eq}
use Rattle.bidfile.specs.declared.records.CurveChoice.{CurveChoice}
use Rattle.bidfile.specs.declared.records.CurveChoice.TheVariants.{Straight, Stepped}
use Rattle.bidfile.specs.declared.records.OrderChoice.{OrderChoice}
use Rattle.bidfile.specs.declared.records.OrderChoice.TheVariants.{ByRule, ByName}
use Rattle.bidfile.specs.declared.records.SideChoice.{SideChoice}
use Rattle.bidfile.specs.declared.records.SideChoice.TheVariants.{Taker, Maker}
use Rattle.bidtext.specs.declared.expected.Expected.{Expected}
use Rattle.bidtext.specs.declared.expected.Expected.TheVariants as expected

-- the number that decimal digits write, after those that were read
abbrev pub value_after : ℕ → List ℕ → ℕ
value_after n [] = n
value_after n (b ∷ bs) = value_after (n * 10 + (b - 48)) bs

abbrev pub value_of : List ℕ → ℕ
value_of digits = value_after 0 digits

abbrev pub numeral : List ℕ → Bool
numeral f = nat_le 1 (length f) && list_all digit f

-- a number of at most 28 bits
unfoldable pub number_in : List ℕ → Result ℕ Expected
number_in f = cond (numeral f) (cond (nat_lt (value_of f) 268435456) (Ok (value_of f)) (Err expected.SmallNumber)) (Err expected.Number)

-- a word that has to stand there
abbrev pub keyword : List ℕ → Expected → List ℕ → Result (Unit {0}) Expected
keyword word e f = cond (bytes_eq f word) (Ok tt) (Err e)

-- the one of two that a word names
abbrev pub choice : {A : Type 0} → List ℕ → A → List ℕ → A → Expected → List ℕ → Result A Expected
choice v a w b e f = cond (bytes_eq f v) (Ok a) (cond (bytes_eq f w) (Ok b) (Err e))

abbrev pub curve_in : List ℕ → Result CurveChoice Expected
curve_in f = choice (codes "straight") Straight (codes "stepped") Stepped expected.CurveChoice f

abbrev pub order_in : List ℕ → Result OrderChoice Expected
order_in f = choice (codes "rule") ByRule (codes "name") ByName expected.OrderChoice f

abbrev pub side_in : List ℕ → Result SideChoice Expected
side_in f = choice (codes "taker") Taker (codes "maker") Maker expected.Side f

-- a class by its word, or by its number
abbrev pub class_in : List ℕ → Result ℕ Expected
class_in f =
    cond (bytes_eq f (codes "existing")) (Ok 0)
    (cond (bytes_eq f (codes "refurbishing")) (Ok 1)
    (cond (bytes_eq f (codes "new")) (Ok 2)
    (cond (bytes_eq f (codes "demand")) (Ok 3) (cond (numeral f) (number_in f) (Err expected.Class)))))

-- nothing more on the line
abbrev pub nothing_in : List ℕ → Result (Unit {0}) Expected
nothing_in f = cond (length f == 0) (Ok tt) (Err expected.End)
