-- A record that was read can be written. Assumes nothing.
use Rattle.std.proofs.Common.{◌≡◌, ℕ, ◌+◌, ◌*◌, ◌<◌, true, ◌&&◌, eqb, ltb, leb, List, length, get_or, drop, Some, None, Ok, Err, codes, Result, refl, ⊎_elim, arith}
use Rattle.bidtext.specs.Letters.{hexadecimal, mark}
use Rattle.bidfile.specs.declared.records.Record.{Record}
use Rattle.bidfile.specs.declared.records.Record.TheVariants as own
use Rattle.bidfile.specs.declared.records.Record.TheVariants.{Terms, Corner, Exit, Years, StepBack, Close}
use Rattle.bidfile.specs.Items.{terms, corner, exit, years}
use Rattle.bidfile.specs.Layout.{Fits}
use Rattle.bidtext.specs.declared.expected.Expected.{Expected}
use Rattle.bidtext.specs.declared.expected.Expected.TheVariants as expected
use Rattle.bidtext.specs.Fields.{fields, field_at}
use Rattle.bidtext.specs.Lines.{and_then, labelled, terms_line, pair_line, corner_line, unit_line, exit_line, years_line, entry_in, record_in, line_record}
use Rattle.bidtext.specs.Names.{padded, is_hexed, hex_byte, hex_name, plain_name, name_in}
use Rattle.bidtext.specs.RoundTrip.{own_item, Fitting}
use Rattle.bidtext.specs.Values.{value_of, numeral, number_in, keyword, curve_in, order_in, side_in, class_in, nothing_in}
use Rattle.bidtext.proofs.NameFields.{every_at, hex_small}
use Rattle.std.proofs.lemmas.List.{get_or_default, get_or_past}
use Rattle.std.proofs.lemmas.Bool.{cond_both, and_parts, eqb-true, cases_lt}
use Rattle.std.proofs.lemmas.Bool.Decides.{nat_tests}
use Rattle.std.specs.List.{AllByRecursion, list_all}
use Rattle.std.specs.Str.{bytes_eq}

-- what holds of a part that was read, if it was read
abbrev IfRead : {A : Type 0} → (A → Type 0) → Result A Expected → Type 0
IfRead P (Ok a) = P a
IfRead P (Err e) = Unit {0}

-- a part is followed by another
if_then : {A B : Type 0} (P : A → Type 0) (Q : B → Type 0) (r : Result A Expected) (f : A → Result B Expected) → IfRead P r → ((a : A) → P a → IfRead Q (f a)) → IfRead Q (and_then r f)
if_then P Q (Ok a) f p h = h a p
if_then P Q (Err e) f p h = tt

-- a part of which nothing is asked
any : {A : Type 0} (r : Result A Expected) → IfRead (λ (a : A). Unit {0}) r
any (Ok a) = tt
any (Err e) = tt

abbrev Small : ℕ → Type 0
Small n = n < 268435456

number_small : (f : List ℕ) → IfRead Small (number_in f)
unfolding number_in
number_small f =
    cond_both (numeral f) _ (Err expected.Number) (IfRead Small)
    (λ _. cond_both (ltb (value_of f) 268435456) (Ok (value_of f)) (Err expected.SmallNumber) (IfRead Small) (λ e. grind (arith, nat_tests)) (λ _. tt)) (λ _. tt)

class_small : (f : List ℕ) → IfRead Small (class_in f)
class_small f =
    cond_both (bytes_eq f (codes "existing")) (Ok 0) _ (IfRead Small) (λ _. omega arith) (λ _.
    cond_both (bytes_eq f (codes "refurbishing")) (Ok 1) _ (IfRead Small) (λ _. omega arith) (λ _.
    cond_both (bytes_eq f (codes "new")) (Ok 2) _ (IfRead Small) (λ _. omega arith) (λ _.
    cond_both (bytes_eq f (codes "demand")) (Ok 3) _ (IfRead Small) (λ _. omega arith) (λ _.
    cond_both (numeral f) (number_in f) (Err expected.Class) (IfRead Small) (λ _. number_small f) (λ _. tt)))))

labelled_small : (fs : List (List ℕ)) (place : ℕ) (word : List ℕ) (e : Expected) → IfRead Small (labelled fs place word e)
labelled_small fs place word e =
    if_then (λ _. Unit {0}) Small (keyword word e (field_at fs place)) _ (any (keyword word e (field_at fs place))) (λ _ _. number_small (field_at fs (place + 1)))

abbrev NamedBytes : List ℕ → Type 0
NamedBytes bs = (length bs ≡ 8) × AllByRecursion (λ b. b < 256) bs

mark_at : (f : List ℕ) (k : ℕ) → list_all mark f ≡ true → get_or f k 32 < 256
mark_at f k all =
    ⊎_elim
    (λ (lt : k < length f). let m = every_at mark f k all lt in let same = get_or_default f k 32 0 lt in let small : get_or f k 0 < 256 = grind (arith, nat_tests) in omega arith)
    (λ past. let same = get_or_past f k 32 past in omega arith) (cases_lt k (length f))

plain_named : (f : List ℕ) → IfRead NamedBytes (plain_name f)
plain_named f =
    cond_both (leb 1 (length f) && (leb (length f) 8 && list_all mark f)) (Ok (padded f)) (Err expected.Name) (IfRead NamedBytes)
    (λ e.
    let all = (and_parts (leb (length f) 8) (list_all mark f) (and_parts (leb 1 (length f)) (leb (length f) 8 && list_all mark f) e).1).1 in
    (refl, (mark_at f 0 all, (mark_at f 1 all, (mark_at f 2 all, (mark_at f 3 all, (mark_at f 4 all, (mark_at f 5 all, (mark_at f 6 all, (mark_at f 7 all, tt)))))))))) (λ _. tt)

hex_at : (ds : List ℕ) (k : ℕ) → 2 * k + 1 < length ds → list_all hexadecimal ds ≡ true → hex_byte ds k < 256
hex_at ds k lt all =
    let high = hex_small (get_or ds (2 * k) 0) (every_at hexadecimal ds (2 * k) all (omega arith)) in
    let low = hex_small (get_or ds (2 * k + 1) 0) (every_at hexadecimal ds (2 * k + 1) all lt) in
    omega arith

hex_named : (ds : List ℕ) → IfRead NamedBytes (hex_name ds)
hex_named ds =
    cond_both (eqb (length ds) 16 && list_all hexadecimal ds) _ (Err expected.Name) (IfRead NamedBytes)
    (λ e.
    let p = and_parts (eqb (length ds) 16) (list_all hexadecimal ds) e in
    let long : length ds ≡ 16 = eqb-true (length ds) 16 p.0 in
    let all = p.1 in
    (refl, (hex_at ds 0 (omega arith) all, (hex_at ds 1 (omega arith) all, (hex_at ds 2 (omega arith) all, (hex_at ds 3 (omega arith) all, (hex_at ds 4 (omega arith) all, (hex_at ds 5 (omega arith) all, (hex_at ds 6 (omega arith) all, (hex_at ds 7 (omega arith) all, tt)))))))))) (λ _. tt)

name_named : (f : List ℕ) → IfRead NamedBytes (name_in f)
unfolding name_in
name_named f =
    cond_both (is_hexed f) (hex_name (drop 4 f)) (plain_name f) (IfRead NamedBytes) (λ _. hex_named (drop 4 f)) (λ _. plain_named f)

terms_fit : (fs : List (List ℕ)) → IfRead (λ t. Fits (terms t)) (terms_line fs)
terms_fit fs =
    if_then Small _ (labelled fs 1 (codes "cap") expected.Cap) _ (labelled_small fs 1 (codes "cap") expected.Cap) (λ top a.
    if_then Small _ (labelled fs 3 (codes "spread") expected.Spread) _ (labelled_small fs 3 (codes "spread") expected.Spread) (λ spread b.
    if_then Small _ (labelled fs 5 (codes "threshold") expected.Threshold) _ (labelled_small fs 5 (codes "threshold") expected.Threshold) (λ threshold c.
    if_then (λ _. Unit {0}) _ (keyword (codes "curve") expected.Curve (field_at fs 7)) _ (any (keyword (codes "curve") expected.Curve (field_at fs 7))) (λ _ _.
    if_then (λ _. Unit {0}) _ (curve_in (field_at fs 8)) _ (any (curve_in (field_at fs 8))) (λ curve _.
    if_then (λ _. Unit {0}) _ (keyword (codes "order") expected.Order (field_at fs 9)) _ (any (keyword (codes "order") expected.Order (field_at fs 9))) (λ _ _.
    if_then (λ _. Unit {0}) _ (order_in (field_at fs 10)) _ (any (order_in (field_at fs 10))) (λ order _.
    if_then (λ _. Unit {0}) _ (nothing_in (field_at fs 11)) _ (any (nothing_in (field_at fs 11))) (λ _ _.
    record { values = (a, (b, (c, tt))); named = tt }))))))))

abbrev SmallPair : ℕ × ℕ → Type 0
SmallPair p = Small p.0 × Small p.1

pair_small : (fs : List (List ℕ)) → IfRead SmallPair (pair_line fs)
pair_small fs =
    if_then Small SmallPair (number_in (field_at fs 1)) _ (number_small (field_at fs 1)) (λ x a.
    if_then Small SmallPair (number_in (field_at fs 2)) _ (number_small (field_at fs 2)) (λ y b.
    if_then (λ _. Unit {0}) SmallPair (nothing_in (field_at fs 3)) _ (any (nothing_in (field_at fs 3))) (λ _ _. (a, b))))

unit_fit : (fs : List (List ℕ)) → IfRead (λ u. Fits (own_item (own.Unit u))) (unit_line fs)
unit_fit fs =
    if_then NamedBytes _ (name_in (field_at fs 1)) _ (name_named (field_at fs 1)) (λ name n.
    if_then Small _ (number_in (field_at fs 2)) _ (number_small (field_at fs 2)) (λ capacity a.
    if_then Small _ (class_in (field_at fs 3)) _ (class_small (field_at fs 3)) (λ class b.
    if_then (λ _. Unit {0}) _ (side_in (field_at fs 4)) _ (any (side_in (field_at fs 4))) (λ side _.
    if_then Small _ (labelled fs 5 (codes "years") expected.Years) _ (labelled_small fs 5 (codes "years") expected.Years) (λ years c.
    if_then Small _ (labelled fs 7 (codes "random") expected.Random) _ (labelled_small fs 7 (codes "random") expected.Random) (λ random d.
    if_then (λ _. Unit {0}) _ (nothing_in (field_at fs 9)) _ (any (nothing_in (field_at fs 9))) (λ _ _.
    record { values = (a, (b, (c, (d, tt)))); named = n })))))))

abbrev Fit : Record (List ℕ) → Type 0
Fit r = Fits (own_item r)

entry_fit : (fs : List (List ℕ)) → IfRead Fit (entry_in fs)
entry_fit fs =
    cond_both (bytes_eq (field_at fs 0) (codes "exit")) _ _ (IfRead Fit)
    (λ _. if_then (λ e. Fits (exit e)) Fit (exit_line fs) (λ e. Ok (Exit e)) (if_then SmallPair (λ e. Fits (exit e)) (pair_line fs) _ (pair_small fs) (λ p s. record { values = (s.0, (s.1, tt)); named = tt })) (λ e h. h)) (λ _.
    cond_both (bytes_eq (field_at fs 0) (codes "years")) _ _ (IfRead Fit)
    (λ _. if_then (λ y. Fits (years y)) Fit (years_line fs) (λ y. Ok (Years y)) (if_then SmallPair (λ y. Fits (years y)) (pair_line fs) _ (pair_small fs) (λ p s. record { values = (s.0, (s.1, tt)); named = tt })) (λ y h. h)) (λ _.
    cond_both (bytes_eq (field_at fs 0) (codes "back")) _ _ (IfRead Fit)
    (λ _. if_then (λ _. Unit {0}) Fit (nothing_in (field_at fs 1)) (λ _. Ok StepBack) (any (nothing_in (field_at fs 1))) (λ _ _. record { values = tt; named = tt })) (λ _.
    cond_both (bytes_eq (field_at fs 0) (codes "close")) _ (Err expected.Record) (IfRead Fit)
    (λ _. if_then (λ _. Unit {0}) Fit (nothing_in (field_at fs 1)) (λ _. Ok Close) (any (nothing_in (field_at fs 1))) (λ _ _. record { values = tt; named = tt })) (λ _. tt))))

record_fit : (fs : List (List ℕ)) → IfRead Fit (record_in fs)
record_fit fs =
    cond_both (bytes_eq (field_at fs 0) (codes "auction")) _ _ (IfRead Fit)
    (λ _. if_then (λ t. Fits (terms t)) Fit (terms_line fs) (λ t. Ok (Terms t)) (terms_fit fs) (λ t h. h)) (λ _.
    cond_both (bytes_eq (field_at fs 0) (codes "corner")) _ _ (IfRead Fit)
    (λ _. if_then (λ c. Fits (corner c)) Fit (corner_line fs) (λ c. Ok (Corner c)) (if_then SmallPair (λ c. Fits (corner c)) (pair_line fs) _ (pair_small fs) (λ p s. record { values = (s.0, (s.1, tt)); named = tt })) (λ c h. h)) (λ _.
    cond_both (bytes_eq (field_at fs 0) (codes "unit")) _ (entry_in fs) (IfRead Fit)
    (λ _. if_then (λ u. Fits (own_item (own.Unit u))) Fit (unit_line fs) (λ u. Ok (own.Unit u)) (unit_fit fs) (λ u h. h)) (λ _. entry_fit fs)))

fitting : (r : Result (Record (List ℕ)) Expected) → IfRead Fit r → Fitting (and_then r (λ x. Ok (Some x)))
fitting (Ok x) h = h
fitting (Err e) h = tt

pub read_fits : (line : List ℕ) → Fitting (line_record line)
unfolding line_record
read_fits line =
    cond_both (eqb (length (field_at (fields line) 0)) 0) (Ok None) _ Fitting (λ _. tt) (λ _. fitting (record_in (fields line)) (record_fit (fields line)))
