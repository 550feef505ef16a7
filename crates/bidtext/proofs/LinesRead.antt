-- The lines of records are read as these records. Assumes nothing.
use Rattle.std.proofs.Common.{◌≡◌, ℕ, Bool, ◌+◌, ◌<◌, true, false, not, ◌==◌, eqb, List, [], ◌∷◌, ◌++◌, take, Ok, Err, vec_items, codes, decimal, Result, Vec, sym, refl, ap, ◌∙◌, subst, append_assoc, arith}
use Rattle.bidtext.specs.Letters.{digit, hexadecimal, mark}
use Rattle.bidfile.specs.declared.records.CurveChoice.{CurveChoice}
use Rattle.bidfile.specs.declared.records.CurveChoice.TheVariants.{Straight, Stepped}
use Rattle.bidfile.specs.declared.records.OrderChoice.{OrderChoice}
use Rattle.bidfile.specs.declared.records.OrderChoice.TheVariants.{ByRule, ByName}
use Rattle.bidfile.specs.declared.records.SideChoice.{SideChoice}
use Rattle.bidfile.specs.declared.records.SideChoice.TheVariants.{Taker, Maker}
use Rattle.bidfile.specs.Items.{Item, terms, corner, unit, exit, years, step_back, close}
use Rattle.bidfile.specs.Layout.{Fits}
use Rattle.bidtext.specs.declared.expected.Expected.{Expected}
use Rattle.bidtext.specs.declared.faults.TextFault.{TextFault}
use Rattle.bidtext.specs.declared.faults.TextFault.TheVariants as fault
use Rattle.bidtext.specs.Fields.{fields}
use Rattle.bidtext.specs.Files.{rows, listed, line_items, then_lines, items_from, text_items, WordsOf, TextRead, TextOf}
use Rattle.bidtext.specs.Kept.{text_line}
use Rattle.bidtext.specs.Lines.{line_record}
use Rattle.bidtext.specs.Texts.{curve_word, order_word, side_word, class_word, hex_pair, marks, is_plain, name_word, line_text}
use Rattle.bidtext.specs.WholeTrip.{LinesRead}
use Rattle.bidtext.proofs.FieldTexts.{by_class, decimal_digits}
use Rattle.bidtext.proofs.LineReads.{reads_back}
use Rattle.bidtext.proofs.NameReads.{pairs_hex}
use Rattle.bidtext.proofs.NameTexts.{every_first}
use Rattle.std.proofs.lemmas.Bool.{cond-false, cond_both, and_parts, and_from}
use Rattle.std.proofs.lemmas.Bool.Decides.{nat_tests}
use Rattle.std.specs.declared.alloc.Global.{Global}
use Rattle.std.specs.List.{flat_map, AllByRecursion, list_all, onto_first}

-- the bytes of which lines are made: all but a newline
abbrev unbroken : ℕ → Bool
unbroken b = not (b == 10)

-- bytes without a newline
abbrev Even : List ℕ → Type 0
Even bs = list_all unbroken bs ≡ true

even_of : (kind : ℕ → Bool) (bs : List ℕ) → ((b : ℕ) → kind b ≡ true → unbroken b ≡ true) → list_all kind bs ≡ true → Even bs
even_of kind [] h all = refl
even_of kind (b ∷ bs) h all =
    let p = and_parts (kind b) (list_all kind bs) all in
    and_from (unbroken b) (list_all unbroken bs) (h b p.0) (even_of kind bs h p.1)

even_append : (xs ys : List ℕ) → Even xs → Even ys → Even (xs ++ ys)
even_append [] ys p q = q
even_append (x ∷ xs) ys p q =
    let h = and_parts (unbroken x) (list_all unbroken xs) p in
    and_from (unbroken x) (list_all unbroken (xs ++ ys)) h.0 (even_append xs ys h.1 q)

even_number : (n : ℕ) → n < 268435456 → Even (decimal n)
even_number n h = even_of digit (decimal n) (λ b e. grind (arith, nat_tests)) (decimal_digits n h)

even_class : (n : ℕ) → n < 268435456 → Even (class_word n)
even_class n h = by_class (λ (k : ℕ) (w : List ℕ). Even w) n refl refl refl refl (even_number n h)

even_curve : (c : CurveChoice) → Even (curve_word c)
even_curve Straight = refl
even_curve Stepped = refl

even_order : (o : OrderChoice) → Even (order_word o)
even_order ByRule = refl
even_order ByName = refl

even_side : (m : SideChoice) → Even (side_word m)
even_side Taker = refl
even_side Maker = refl

even_name : (bs : List ℕ) → AllByRecursion (λ b. b < 256) bs → Even (name_word bs)
unfolding name_word
even_name bs small =
    cond_both (is_plain bs) (take (marks bs) bs) (codes "hex:" ++ flat_map hex_pair bs) Even
    (λ _. even_of mark (take (marks bs) bs) (λ b e. grind (arith, nat_tests)) (every_first mark bs))
    (λ _. even_of hexadecimal (flat_map hex_pair bs) (λ b e. grind (arith, nat_tests)) (pairs_hex bs small))

even_pair : (x y : ℕ) → x < 268435456 → y < 268435456 → Even (decimal x ++ (32 ∷ decimal y))
even_pair x y a b = even_append (decimal x) (32 ∷ decimal y) (even_number x a) (even_number y b)

even_line : (item : Item) → Fits item → Even (line_text item)
even_line (terms t) f =
    let v = f.values in
    even_append (decimal t.«cap») _ (even_number t.«cap» v.0)
    (even_append (decimal t.spread) _ (even_number t.spread v.1.0)
    (even_append (decimal t.threshold) _ (even_number t.threshold v.1.1.0) (even_append (curve_word t.curve) _ (even_curve t.curve) (even_order t.order))))
even_line (corner c) f = even_pair c.quantity c.price f.values.0 f.values.1.0
even_line (unit u) f =
    let v = f.values in
    even_append (name_word u.bytes) _ (even_name u.bytes f.named.1)
    (even_append (decimal u.capacity) _ (even_number u.capacity v.0)
    (even_append (class_word u.class) _ (even_class u.class v.1.0)
    (even_append (side_word u.side) _ (even_side u.side) (even_append (decimal u.years) _ (even_number u.years v.1.1.0) (even_number u.random v.1.1.1.0)))))
even_line (exit e) f = even_pair e.unit e.price f.values.0 f.values.1.0
even_line (years y) f = even_pair y.unit y.years f.values.0 f.values.1.0
even_line step_back f = refl
even_line close f = refl

-- a line, its newline, and other lines
rows_then : (w rest : List ℕ) → Even w → rows (w ++ (10 ∷ rest)) ≡ w ∷ rows rest
rows_then [] rest e = refl
rows_then (b ∷ w) rest e =
    let p = and_parts (unbroken b) (list_all unbroken w) e in
    let other : eqb b 10 ≡ false = grind (arith, nat_tests) in
    cond-false (eqb b 10) ([] ∷ rows (w ++ (10 ∷ rest))) (onto_first b (rows (w ++ (10 ∷ rest)))) other ∙ ap (onto_first b) (rows_then w rest p.1)

no_line : line_items [] ≡ Ok []
unfolding line_record fields
no_line = refl

items_back : (n : ℕ) (items : List Item) → AllByRecursion Fits items → items_from n (rows (flat_map text_line items)) ≡ Ok items
items_back n [] f = ap (λ (r : Result (List Item) Expected). then_lines n r (Ok [])) no_line
items_back n (item ∷ items) f =
    let rest = flat_map text_line items in
    let cut : rows (text_line item ++ rest) ≡ line_text item ∷ rows rest = ap rows (append_assoc (line_text item) (10 ∷ []) rest) ∙ rows_then (line_text item) rest (even_line item f.0) in
    ap (items_from n) cut
    ∙ ap (λ (r : Result (List Item) Expected). then_lines n r (items_from (n + 1) (rows rest))) (ap listed (reads_back item f.0))
    ∙ ap (λ (r : Result (List Item) (ℕ × Expected)). then_lines n (Ok (item ∷ [])) r) (items_back (n + 1) items f.1)

pub lines_read : LinesRead
unfolding text_items
lines_read items f = items_back 1 items f

-- so the words for them are those of these records
pub text_trip : (text : List ℕ) (r : Result (Vec ℕ Global) TextFault) → TextRead text r → (items : List Item) → AllByRecursion Fits items → text ≡ flat_map text_line items → TextOf items r
text_trip text (Ok words) h items f same =
    let read : text_items text ≡ Ok items = ap text_items same ∙ lines_read items f in
    let all : h.0 ≡ items = let e : Ok h.0 ≡ Ok items = sym h.1 ∙ read in cc in
    subst (λ (xs : List Item). WordsOf xs (vec_items words)) all h.2
text_trip text (Err (fault.Line n e)) h items f same =
    let read : text_items text ≡ Ok items = ap text_items same ∙ lines_read items f in
    let never : ◌≡◌ {A = ℕ} 0 1 = cc in
    omega arith
text_trip text (Err fault.Memory) h items f same = tt
