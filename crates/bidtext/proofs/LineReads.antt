-- The line of a record is read as that record. Assumes nothing.
use Rattle.std.proofs.Common.{◌≡◌, ℕ, ◌<◌, List, [], ◌∷◌, ◌++◌, Some, Ok, codes, decimal, Result, refl, ap, ◌∙◌, arith}
use Rattle.bidfile.specs.declared.records.CurveChoice.{CurveChoice}
use Rattle.bidfile.specs.declared.records.CurveChoice.TheVariants.{Straight, Stepped}
use Rattle.bidfile.specs.declared.records.OrderChoice.{OrderChoice}
use Rattle.bidfile.specs.declared.records.OrderChoice.TheVariants.{ByRule, ByName}
use Rattle.bidfile.specs.declared.records.TermsRecord.{TermsRecord}
use Rattle.bidfile.specs.declared.records.SideChoice.{SideChoice}
use Rattle.bidfile.specs.declared.records.SideChoice.TheVariants.{Taker, Maker}
use Rattle.bidfile.specs.declared.records.Record.TheVariants.{Terms, Corner, Unit, Exit, Years}
use Rattle.bidfile.specs.declared.records.UnitRecord.{UnitRecord}
use Rattle.bidfile.specs.Items.{UnitItem, terms, corner, unit, exit, years, step_back, close}
use Rattle.bidfile.specs.Layout.{Fits}
use Rattle.bidtext.specs.declared.expected.Expected.{Expected}
use Rattle.bidtext.specs.Fields.{fields}
use Rattle.bidtext.specs.Lines.{and_then, pair_line, unit_line, fields_record, line_record}
use Rattle.bidtext.specs.Names.{name_in}
use Rattle.bidtext.specs.RoundTrip.{line_said, TextReadsBack}
use Rattle.bidtext.specs.Texts.{curve_word, order_word, side_word, class_word, name_word, line_text}
use Rattle.bidtext.specs.Values.{number_in, side_in, class_in}
use Rattle.bidtext.proofs.FieldTexts.{Field, fields_then, fields_last, word, decimal_field, number_reads, class_reads, class_field}
use Rattle.bidtext.proofs.NameReads.{name_reads, name_field}
use Rattle.std.specs.List.{AllByRecursion}

curve_field : (c : CurveChoice) → Field (curve_word c)
curve_field Straight = word _ refl (omega arith)
curve_field Stepped = word _ refl (omega arith)

order_field : (o : OrderChoice) → Field (order_word o)
order_field ByRule = word _ refl (omega arith)
order_field ByName = word _ refl (omega arith)

side_field : (m : SideChoice) → Field (side_word m)
side_field Taker = word _ refl (omega arith)
side_field Maker = word _ refl (omega arith)

pair_reads : (w : List ℕ) (x y : ℕ) → x < 268435456 → y < 268435456 → pair_line (w ∷ (decimal x ∷ (decimal y ∷ []))) ≡ Ok (x, y)
pair_reads w x y a b =
    let e = number_reads x a in
    let f = number_reads y b in
    simp (e, f)

-- the fields of a line of two numbers
pair_fields : (w : List ℕ) (x y : ℕ) → Field w → x < 268435456 → y < 268435456 → fields (w ++ (32 ∷ (decimal x ++ (32 ∷ decimal y)))) ≡ w ∷ (decimal x ∷ (decimal y ∷ []))
pair_fields w x y f a b =
    fields_then w _ _ f (fields_then (decimal x) _ _ (decimal_field x a) (fields_last (decimal y) (decimal_field y b)))

-- one part of a line that is right, and what follows it
then_ok : {A B : Type 0} (r : Result A Expected) (a : A) (f : A → Result B Expected) → r ≡ Ok a → and_then r f ≡ f a
then_ok {A} r a f e = ap (λ (x : Result A Expected). and_then x f) e

terms_fields : (t : TermsRecord) → t.«cap» < 268435456 → t.spread < 268435456 → t.threshold < 268435456 → fields (line_text (terms t)) ≡ codes "auction" ∷ (codes "cap" ∷ (decimal t.«cap» ∷ (codes "spread" ∷ (decimal t.spread ∷ (codes "threshold" ∷ (decimal t.threshold ∷ (codes "curve" ∷ (curve_word t.curve ∷ (codes "order" ∷ (order_word t.order ∷ []))))))))))
terms_fields t a b c =
    fields_then (codes "auction") _ _ (word _ refl (omega arith))
    (fields_then (codes "cap") _ _ (word _ refl (omega arith))
    (fields_then (decimal t.«cap») _ _ (decimal_field t.«cap» a)
    (fields_then (codes "spread") _ _ (word _ refl (omega arith))
    (fields_then (decimal t.spread) _ _ (decimal_field t.spread b)
    (fields_then (codes "threshold") _ _ (word _ refl (omega arith))
    (fields_then (decimal t.threshold) _ _ (decimal_field t.threshold c)
    (fields_then (codes "curve") _ _ (word _ refl (omega arith))
    (fields_then (curve_word t.curve) _ _ (curve_field t.curve)
    (fields_then (codes "order") _ _ (word _ refl (omega arith)) (fields_last (order_word t.order) (order_field t.order)))))))))))

terms_reads : (x y z : ℕ) (c : CurveChoice) (o : OrderChoice) → x < 268435456 → y < 268435456 → z < 268435456
    → fields_record (codes "auction" ∷ (codes "cap" ∷ (decimal x ∷ (codes "spread" ∷ (decimal y ∷ (codes "threshold" ∷ (decimal z ∷ (codes "curve" ∷ (curve_word c ∷ (codes "order" ∷ (order_word o ∷ []))))))))))) ≡ Ok (Some (Terms (record { «cap» = x; spread = y; threshold = z; curve = c; order = o })))
terms_reads x y z Straight ByRule i j k =
    let e = number_reads x i in
    let f = number_reads y j in
    let g = number_reads z k in
    simp (e, f, g)
terms_reads x y z Straight ByName i j k =
    let e = number_reads x i in
    let f = number_reads y j in
    let g = number_reads z k in
    simp (e, f, g)
terms_reads x y z Stepped ByRule i j k =
    let e = number_reads x i in
    let f = number_reads y j in
    let g = number_reads z k in
    simp (e, f, g)
terms_reads x y z Stepped ByName i j k =
    let e = number_reads x i in
    let f = number_reads y j in
    let g = number_reads z k in
    simp (e, f, g)

unit_fields : (u : UnitItem) → AllByRecursion (λ b. b < 256) u.bytes → u.capacity < 268435456 → u.class < 268435456 → u.years < 268435456 → u.random < 268435456 → fields (line_text (unit u)) ≡ codes "unit" ∷ (name_word u.bytes ∷ (decimal u.capacity ∷ (class_word u.class ∷ (side_word u.side ∷ (codes "years" ∷ (decimal u.years ∷ (codes "random" ∷ (decimal u.random ∷ []))))))))
unit_fields u n a b c d =
    fields_then (codes "unit") _ _ (word _ refl (omega arith))
    (fields_then (name_word u.bytes) _ _ (name_field u.bytes n)
    (fields_then (decimal u.capacity) _ _ (decimal_field u.capacity a)
    (fields_then (class_word u.class) _ _ (class_field u.class b)
    (fields_then (side_word u.side) _ _ (side_field u.side)
    (fields_then (codes "years") _ _ (word _ refl (omega arith))
    (fields_then (decimal u.years) _ _ (decimal_field u.years c)
    (fields_then (codes "random") _ _ (word _ refl (omega arith)) (fields_last (decimal u.random) (decimal_field u.random d)))))))))

side_reads : (m : SideChoice) → side_in (side_word m) ≡ Ok m
side_reads Taker = refl
side_reads Maker = refl

unit_reads : (bs : List ℕ) (x k y z : ℕ) (m : SideChoice) → name_in (name_word bs) ≡ Ok bs → x < 268435456 → k < 268435456 → y < 268435456 → z < 268435456
    → unit_line (codes "unit" ∷ (name_word bs ∷ (decimal x ∷ (class_word k ∷ (side_word m ∷ (codes "years" ∷ (decimal y ∷ (codes "random" ∷ (decimal z ∷ []))))))))) ≡ Ok (record { capacity = x; class = k; side = m; years = y; random = z; name = bs })
unit_reads bs x k y z m n a b c d =
    then_ok (name_in (name_word bs)) bs _ n
    ∙ then_ok (number_in (decimal x)) x _ (number_reads x a)
    ∙ then_ok (class_in (class_word k)) k _ (class_reads k b)
    ∙ then_ok (side_in (side_word m)) m _ (side_reads m)
    ∙ then_ok (number_in (decimal y)) y _ (number_reads y c)
    ∙ then_ok (number_in (decimal z)) z _ (number_reads z d)

said_unit : (u : UnitItem) → Fits (unit u) → line_said (line_record (line_text (unit u))) ≡ Ok (Some (unit u))
unfolding line_record
said_unit u f =
    let v = f.values in
    let n = f.named in
    ap (λ (fs : List (List ℕ)). line_said (fields_record fs)) (unit_fields u n.1 v.0 v.1.0 v.1.1.0 v.1.1.1.0)
    ∙ ap (λ (r : Result (UnitRecord (List ℕ)) Expected). line_said (and_then (and_then r (λ x. Ok (Unit x))) (λ x. Ok (Some x)))) (unit_reads u.bytes u.capacity u.class u.years u.random u.side (name_reads u.bytes n.0 n.1) v.0 v.1.0 v.1.1.0 v.1.1.1.0)

-- the text of each record that can be written is read as that record
pub reads_back : TextReadsBack
unfolding line_record
reads_back (terms t) f =
    let v = f.values in
    ap (λ (fs : List (List ℕ)). line_said (fields_record fs)) (terms_fields t v.0 v.1.0 v.1.1.0)
    ∙ ap line_said (terms_reads t.«cap» t.spread t.threshold t.curve t.order v.0 v.1.0 v.1.1.0)
reads_back (corner c) f =
    let v = f.values in
    ap (λ (fs : List (List ℕ)). line_said (fields_record fs)) (pair_fields (codes "corner") c.quantity c.price (word _ refl (omega arith)) v.0 v.1.0)
    ∙ ap (λ (r : Result (ℕ × ℕ) Expected). line_said (and_then (and_then (and_then r (λ p. Ok (record { quantity = p.0; price = p.1 }))) (λ x. Ok (Corner x))) (λ x. Ok (Some x)))) (pair_reads (codes "corner") c.quantity c.price v.0 v.1.0)
reads_back (unit u) f = said_unit u f
reads_back (exit e) f =
    let v = f.values in
    ap (λ (fs : List (List ℕ)). line_said (fields_record fs)) (pair_fields (codes "exit") e.unit e.price (word _ refl (omega arith)) v.0 v.1.0)
    ∙ ap (λ (r : Result (ℕ × ℕ) Expected). line_said (and_then (and_then (and_then r (λ p. Ok (record { unit = p.0; price = p.1 }))) (λ x. Ok (Exit x))) (λ x. Ok (Some x)))) (pair_reads (codes "exit") e.unit e.price v.0 v.1.0)
reads_back (years y) f =
    let v = f.values in
    ap (λ (fs : List (List ℕ)). line_said (fields_record fs)) (pair_fields (codes "years") y.unit y.years (word _ refl (omega arith)) v.0 v.1.0)
    ∙ ap (λ (r : Result (ℕ × ℕ) Expected). line_said (and_then (and_then (and_then r (λ p. Ok (record { unit = p.0; years = p.1 }))) (λ x. Ok (Years x))) (λ x. Ok (Some x)))) (pair_reads (codes "years") y.unit y.years v.0 v.1.0)
reads_back step_back f = ap (λ (fs : List (List ℕ)). line_said (fields_record fs)) (fields_last (codes "back") (word _ refl (omega arith)))
reads_back close f = ap (λ (fs : List (List ℕ)). line_said (fields_record fs)) (fields_last (codes "close") (word _ refl (omega arith)))
