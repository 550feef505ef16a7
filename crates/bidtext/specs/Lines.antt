-- What a line of text says. Assumes nothing.
use Rattle.std.specs.Prelude.{ℕ, ◌+◌, cond, List, length, Some, None, Ok, Err, codes, Option, Result, ◌==◌}
use Rattle.bidfile.specs.declared.records.ExitRecord.{ExitRecord}
use Rattle.bidfile.specs.declared.records.Record.{Record}
use Rattle.bidfile.specs.declared.records.Record.TheVariants.{Terms, Corner, Unit, Exit, Years, StepBack, Close}
use Rattle.bidfile.specs.declared.records.TermsRecord.{TermsRecord}
use Rattle.bidfile.specs.declared.records.UnitRecord.{UnitRecord}
use Rattle.bidfile.specs.declared.records.YearsRecord.{YearsRecord}
use Rattle.curve.specs.declared.corner.Corner.{Corner as CurveCorner}
use Rattle.std.specs.Str.{bytes_eq}
use Rattle.bidtext.specs.declared.expected.Expected.{Expected}
use Rattle.bidtext.specs.declared.expected.Expected.TheVariants as expected
use Rattle.bidtext.specs.Fields.{fields, field_at}
use Rattle.bidtext.specs.Names.{name_in}
use Rattle.bidtext.specs.Values.{number_in, keyword, curve_in, order_in, side_in, class_in, nothing_in}

-- one part of a line after another; the first that is wrong is what was expected
abbrev pub and_then : {A B : Type 0} → Result A Expected → (A → Result B Expected) → Result B Expected
and_then (Ok a) f = f a
and_then (Err e) f = Err e

-- a number behind its word
abbrev pub labelled : List (List ℕ) → ℕ → List ℕ → Expected → Result ℕ Expected
labelled fs place word e = and_then (keyword word e (field_at fs place)) (λ _. number_in (field_at fs (place + 1)))

-- auction cap N spread N threshold N curve straight|stepped order rule|name
abbrev pub terms_line : List (List ℕ) → Result TermsRecord Expected
terms_line fs =
    and_then (labelled fs 1 (codes "cap") expected.Cap) (λ top.
    and_then (labelled fs 3 (codes "spread") expected.Spread) (λ spread.
    and_then (labelled fs 5 (codes "threshold") expected.Threshold) (λ threshold.
    and_then (keyword (codes "curve") expected.Curve (field_at fs 7)) (λ _.
    and_then (curve_in (field_at fs 8)) (λ curve.
    and_then (keyword (codes "order") expected.Order (field_at fs 9)) (λ _.
    and_then (order_in (field_at fs 10)) (λ order.
    and_then (nothing_in (field_at fs 11)) (λ _.
    Ok (record { «cap» = top; spread = spread; threshold = threshold; curve = curve; order = order })))))))))

-- two numbers, and nothing more
abbrev pub pair_line : List (List ℕ) → Result (ℕ × ℕ) Expected
pair_line fs =
    and_then (number_in (field_at fs 1)) (λ x. and_then (number_in (field_at fs 2)) (λ y. and_then (nothing_in (field_at fs 3)) (λ _. Ok (x, y))))

-- corner QUANTITY PRICE
abbrev pub corner_line : List (List ℕ) → Result CurveCorner Expected
corner_line fs = and_then (pair_line fs) (λ p. Ok (record { quantity = p.0; price = p.1 }))

-- unit NAME CAPACITY CLASS taker|maker years N random N
abbrev pub unit_line : List (List ℕ) → Result (UnitRecord (List ℕ)) Expected
unit_line fs =
    and_then (name_in (field_at fs 1)) (λ name.
    and_then (number_in (field_at fs 2)) (λ capacity.
    and_then (class_in (field_at fs 3)) (λ class.
    and_then (side_in (field_at fs 4)) (λ side.
    and_then (labelled fs 5 (codes "years") expected.Years) (λ years.
    and_then (labelled fs 7 (codes "random") expected.Random) (λ random.
    and_then (nothing_in (field_at fs 9)) (λ _.
    Ok (record { capacity = capacity; class = class; side = side; years = years; random = random; name = name }))))))))

-- exit UNIT PRICE
abbrev pub exit_line : List (List ℕ) → Result ExitRecord Expected
exit_line fs = and_then (pair_line fs) (λ p. Ok (record { unit = p.0; price = p.1 }))

-- years UNIT YEARS
abbrev pub years_line : List (List ℕ) → Result YearsRecord Expected
years_line fs = and_then (pair_line fs) (λ p. Ok (record { unit = p.0; years = p.1 }))

-- what is entered in a round, by its first field
abbrev pub entry_in : List (List ℕ) → Result (Record (List ℕ)) Expected
entry_in fs =
    cond (bytes_eq (field_at fs 0) (codes "exit")) (and_then (exit_line fs) (λ e. Ok (Exit e)))
    (cond (bytes_eq (field_at fs 0) (codes "years")) (and_then (years_line fs) (λ y. Ok (Years y)))
    (cond (bytes_eq (field_at fs 0) (codes "back")) (and_then (nothing_in (field_at fs 1)) (λ _. Ok StepBack))
    (cond (bytes_eq (field_at fs 0) (codes "close")) (and_then (nothing_in (field_at fs 1)) (λ _. Ok Close)) (Err expected.Record))))

-- a record by its first field
abbrev pub record_in : List (List ℕ) → Result (Record (List ℕ)) Expected
record_in fs =
    cond (bytes_eq (field_at fs 0) (codes "auction")) (and_then (terms_line fs) (λ t. Ok (Terms t)))
    (cond (bytes_eq (field_at fs 0) (codes "corner")) (and_then (corner_line fs) (λ c. Ok (Corner c)))
    (cond (bytes_eq (field_at fs 0) (codes "unit")) (and_then (unit_line fs) (λ u. Ok (Unit u))) (entry_in fs)))

-- the record that some fields write, none where there are no fields
abbrev pub fields_record : List (List ℕ) → Result (Option (Record (List ℕ))) Expected
fields_record fs = cond (length (field_at fs 0) == 0) (Ok None) (and_then (record_in fs) (λ r. Ok (Some r)))

-- the record of a line
unfoldable pub line_record : List ℕ → Result (Option (Record (List ℕ))) Expected
line_record line = fields_record (fields line)
