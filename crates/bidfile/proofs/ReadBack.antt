-- Records that are written one after the other are found again.
use Rattle.std.proofs.Common.{◌≡◌, ℕ, suc, ◌+◌, ◌*◌, ◌/◌, ◌%◌, ◌<◌, ◌≤◌, true, cond, ◌&&◌, eqb, leb, List, [], ◌∷◌, ◌++◌, length, get_or, take, drop, Some, None, Option, sym, refl, ap, ◌∙◌, arith}
use Rattle.std.proofs.lemmas.List.{append_assoc, drop_at, drop-drop, get_or-drop, length-append, length-drop, take_at}
use Rattle.std.proofs.lemmas.Bool.{and_from, le-leb, eq-eqb}
use Rattle.std.specs.List.{flat_map, AllByRecursion}
use Rattle.bidfile.specs.declared.records.CurveChoice.{CurveChoice}
use Rattle.bidfile.specs.declared.records.CurveChoice.TheVariants.{Straight, Stepped}
use Rattle.bidfile.specs.declared.records.OrderChoice.{OrderChoice}
use Rattle.bidfile.specs.declared.records.OrderChoice.TheVariants.{ByRule, ByName}
use Rattle.bidfile.specs.declared.records.ExitRecord.{ExitRecord}
use Rattle.bidfile.specs.declared.records.TermsRecord.{TermsRecord}
use Rattle.bidfile.specs.declared.records.YearsRecord.{YearsRecord}
use Rattle.bidfile.specs.declared.records.SideChoice.{SideChoice}
use Rattle.bidfile.specs.declared.records.SideChoice.TheVariants.{Taker, Maker}
use Rattle.curve.specs.declared.corner.Corner.{Corner}
use Rattle.bidfile.specs.Found.{Found, found, found_at, item_at, operands, plain_words, whole_at, terms_at, corner_at, unit_at, exit_at, years_at, bare_at, name_at}
use Rattle.bidfile.specs.Items.{Item, UnitItem, terms, corner, unit, exit, years, step_back, close, item_kind, size, selected, curve_number, order_number, side_number}
use Rattle.bidfile.specs.Layout.{Fits, ReadsBack, head, in_places, layout, tail_of, word_bytes, words_of}
use Rattle.bidfile.specs.Words.{words, word_at, kind_at, value_at}
use Rattle.bidfile.proofs.FoundPlaces.{found_more, found_none, size_some}
use Rattle.bidfile.proofs.Standing.{four_values}
use Rattle.bidfile.proofs.WordBytes.{values_from}

-- the word that four bytes at the front make
abbrev front : List ℕ → ℕ
front xs = get_or xs 0 0 * 16777216 + get_or xs 1 0 * 65536 + get_or xs 2 0 * 256 + get_or xs 3 0

front_is : (bytes : List ℕ) (at : ℕ) → word_at bytes at ≡ front (drop (4 * at) bytes)
front_is bytes at =
    let a = get_or-drop (4 * at) bytes 0 0 in
    let b = get_or-drop (4 * at) bytes 1 0 in
    let c = get_or-drop (4 * at) bytes 2 0 in
    let d = get_or-drop (4 * at) bytes 3 0 in
    let e : 4 * at + 0 ≡ 4 * at = omega arith in
    cc

word_again : (w : ℕ) → w < 4294967296 → w / 16777216 * 16777216 + w / 65536 % 256 * 65536 + w / 256 % 256 * 256 + w % 256 ≡ w
word_again w lt = omega arith

-- the bytes of a file from a place on, if its words begin with ws
abbrev Begins : List ℕ → ℕ → List ℕ → List ℕ → Type 0
Begins bytes at ws rest = drop (4 * at) bytes ≡ flat_map word_bytes ws ++ rest

first_word : (bytes : List ℕ) (at w : ℕ) (ws rest : List ℕ) → w < 4294967296 → Begins bytes at (w ∷ ws) rest → word_at bytes at ≡ w
first_word bytes at w ws rest lt h = front_is bytes at ∙ (ap front h ∙ word_again w lt)

next_words : (bytes : List ℕ) (at w : ℕ) (ws rest : List ℕ) → Begins bytes at (w ∷ ws) rest → Begins bytes (at + 1) ws rest
next_words bytes at w ws rest h =
    let e : 4 * (at + 1) ≡ 4 * at + 4 = omega arith in
    ap (λ (n : ℕ). drop n bytes) e ∙ (sym (drop-drop 4 (4 * at) bytes) ∙ ap (drop 4) h)

head_kind : (k v : ℕ) → v < 268435456 → (k * 268435456 + v) / 268435456 ≡ k
head_kind k v lt = omega arith

head_value : (k v : ℕ) → v < 268435456 → (k * 268435456 + v) % 268435456 ≡ v
head_value k v lt = omega arith

plain_kind : (v : ℕ) → v < 268435456 → v / 268435456 ≡ 0
plain_kind v lt = omega arith

plain_value : (v : ℕ) → v < 268435456 → v % 268435456 ≡ v
plain_value v lt = omega arith

first_kind : (bytes : List ℕ) (at k v : ℕ) (ws rest : List ℕ) → k < 16 → v < 268435456 → Begins bytes at (head k v ∷ ws) rest → kind_at bytes at ≡ k
first_kind bytes at k v ws rest few lt h =
    ap (λ (w : ℕ). w / 268435456) (first_word bytes at (head k v) ws rest (omega arith) h) ∙ head_kind k v lt

first_value : (bytes : List ℕ) (at k v : ℕ) (ws rest : List ℕ) → k < 16 → v < 268435456 → Begins bytes at (head k v ∷ ws) rest → value_at bytes at ≡ v
first_value bytes at k v ws rest few lt h =
    ap (λ (w : ℕ). w % 268435456) (first_word bytes at (head k v) ws rest (omega arith) h) ∙ head_value k v lt

-- operands are of kind 0, have their values, and then comes the rest
operands_plain : (bytes : List ℕ) (at : ℕ) (ws rest : List ℕ) → AllByRecursion (λ v. v < 268435456) ws → Begins bytes at ws rest → plain_words (length ws) bytes at ≡ true
operands_plain bytes at [] rest each h = refl
operands_plain bytes at (v ∷ vs) rest each h =
    let lt : v < 268435456 = each.0 in
    let kind = ap (λ (w : ℕ). w / 268435456) (first_word bytes at v vs rest (omega arith) h) ∙ plain_kind v lt in
    and_from (eqb (kind_at bytes at) 0) (plain_words (length vs) bytes (at + 1)) (eq-eqb (kind_at bytes at) 0 kind)
    (operands_plain bytes (at + 1) vs rest each.1 (next_words bytes at v vs rest h))

operands_are : (bytes : List ℕ) (at : ℕ) (ws rest : List ℕ) → AllByRecursion (λ v. v < 268435456) ws → Begins bytes at ws rest → values_from (length ws) bytes at ≡ ws
operands_are bytes at [] rest each h = refl
operands_are bytes at (v ∷ vs) rest each h =
    let lt : v < 268435456 = each.0 in
    let value = ap (λ (w : ℕ). w % 268435456) (first_word bytes at v vs rest (omega arith) h) ∙ plain_value v lt in
    let more = operands_are bytes (at + 1) vs rest each.1 (next_words bytes at v vs rest h) in
    ap (λ (x : ℕ). x ∷ values_from (length vs) bytes (at + 1)) value ∙ ap (λ (xs : List ℕ). v ∷ xs) more

words_past : (bytes : List ℕ) (at : ℕ) (ws rest : List ℕ) → Begins bytes at ws rest → drop (4 * (at + length ws)) bytes ≡ rest
words_past bytes at [] rest h = let e : at + 0 ≡ at = omega arith in ap (λ (n : ℕ). drop (4 * n) bytes) e ∙ h
words_past bytes at (w ∷ ws) rest h =
    let e : at + suc (length ws) ≡ at + 1 + length ws = omega arith in
    ap (λ (n : ℕ). drop (4 * n) bytes) e ∙ words_past bytes (at + 1) ws rest (next_words bytes at w ws rest h)

length_words : (ws : List ℕ) → length (flat_map word_bytes ws) ≡ 4 * length ws
length_words [] = refl
length_words (w ∷ ws) = let more = length_words ws in omega arith

-- a record as it is found
abbrev as_found : ℕ → Item → Found
as_found at i = record { place = at; kind = item_kind i; whole = true; item = Some i }

-- what a record is written as: a head word, operands of 28 bits, and a tail that ends where the next record begins
record Written (i : Item) (v : ℕ) (ops : List ℕ) : Type 0 where
  words_are : words_of i ≡ head (item_kind i) v ∷ ops
  value : v < 268435456
  few : item_kind i < 16
  small : AllByRecursion (λ w. w < 268435456) ops
  count : operands (item_kind i) ≡ length ops
  long : length (layout i) ≡ 4 * size (item_kind i)

module _ (bytes : List ℕ) (at : ℕ) (i : Item) (more : List ℕ) (v : ℕ) (ops : List ℕ) (w : Written i v ops) (h : drop (4 * at) bytes ≡ layout i ++ more) where
  begins : Begins bytes at (head (item_kind i) v ∷ ops) (tail_of i ++ more)
  begins =
      h ∙ (append_assoc (flat_map word_bytes (words_of i)) (tail_of i) more
      ∙ ap (λ (ws : List ℕ). flat_map word_bytes ws ++ (tail_of i ++ more)) w.words_are)

  kind_is : kind_at bytes at ≡ item_kind i
  kind_is = first_kind bytes at (item_kind i) v ops (tail_of i ++ more) w.few w.value begins

  value_is : value_at bytes at ≡ v
  value_is = first_value bytes at (item_kind i) v ops (tail_of i ++ more) w.few w.value begins

  next : Begins bytes (at + 1) ops (tail_of i ++ more)
  next = next_words bytes at (head (item_kind i) v) ops (tail_of i ++ more) begins

  values_are : values_from (length ops) bytes (at + 1) ≡ ops
  values_are = operands_are bytes (at + 1) ops (tail_of i ++ more) w.small next

  room : at + size (item_kind i) ≤ words bytes
  room =
      let one = size_some (item_kind i) in
      let long = w.long in
      let all = ap length h in
      let left = length-drop (4 * at) bytes in
      let right = length-append (layout i) more in
      omega arith

  whole_is : whole_at bytes at ≡ true
  whole_is =
      let same = ap (λ (k : ℕ). leb (at + size k) (words bytes) && plain_words (operands k) bytes (at + 1)) kind_is in
      let plain = ap (λ (n : ℕ). plain_words n bytes (at + 1)) w.count ∙ operands_plain bytes (at + 1) ops (tail_of i ++ more) w.small next in
      same ∙ and_from (leb (at + size (item_kind i)) (words bytes)) (plain_words (operands (item_kind i)) bytes (at + 1)) (le-leb (at + size (item_kind i)) (words bytes) room) plain

  tail_past : drop (4 * (at + 1 + length ops)) bytes ≡ tail_of i ++ more
  tail_past = words_past bytes (at + 1) ops (tail_of i ++ more) next

  found_is : item_at bytes at ≡ Some i → found_at bytes at ≡ as_found at i
  found_is item = let k = kind_is in let b = whole_is in cc

  after : drop (4 * (at + size (item_kind i))) bytes ≡ more
  after =
      let e : 4 * (at + size (item_kind i)) ≡ 4 * at + 4 * size (item_kind i) = omega arith in
      ap (λ (n : ℕ). drop n bytes) e
      ∙ (sym (drop-drop (4 * size (item_kind i)) (4 * at) bytes)
      ∙ (ap (drop (4 * size (item_kind i))) h ∙ drop_at (layout i) more (4 * size (item_kind i)) w.long))

-- a record of each kind over plain numbers, as item_at makes it
abbrev picked : ℕ → Option Item → Option Item → Option Item → Option Item → Option Item → Option Item → Option Item → Option Item
picked k a b c d e f g =
    cond (eqb k 1) a (cond (eqb k 2) b (cond (eqb k 3) c (cond (eqb k 4) d (cond (eqb k 5) e (cond (eqb k 6) f g)))))

item_by : (bytes : List ℕ) (at k : ℕ) → kind_at bytes at ≡ k
    → item_at bytes at ≡ picked k (terms_at bytes at) (corner_at bytes at) (unit_at bytes at) (exit_at bytes at) (years_at bytes at) (bare_at step_back bytes at) (bare_at close bytes at)
item_by bytes at k e =
    ap (λ (n : ℕ). picked n (terms_at bytes at) (corner_at bytes at) (unit_at bytes at) (exit_at bytes at) (years_at bytes at) (bare_at step_back bytes at) (bare_at close bytes at)) e

abbrev terms_by : ℕ → ℕ → ℕ → ℕ → ℕ → Option Item
terms_by x y z a b =
    elim (selected Straight Stepped a) [ None ↦ None | Some curve ↦ elim (selected ByRule ByName b) [ None ↦ None | Some order ↦ Some (terms (record { «cap» = x; spread = y; threshold = z; curve = curve; order = order })) ] ]

abbrev terms_of : ℕ → List ℕ → Option Item
terms_of x ws = terms_by x (get_or ws 0 0) (get_or ws 1 0) (get_or ws 2 0) (get_or ws 3 0)

terms_again : (x y z : ℕ) (c : CurveChoice) (o : OrderChoice)
    → terms_by x y z (curve_number c) (order_number o) ≡ Some (terms (record { «cap» = x; spread = y; threshold = z; curve = c; order = o }))
terms_again x y z Straight ByRule = refl
terms_again x y z Straight ByName = refl
terms_again x y z Stepped ByRule = refl
terms_again x y z Stepped ByName = refl

abbrev unit_by : ℕ → ℕ → ℕ → ℕ → ℕ → List ℕ → Option Item
unit_by x y a z w name =
    elim (selected Taker Maker a) [ None ↦ None | Some side ↦ Some (unit (record { capacity = x; class = y; side = side; years = z; random = w; bytes = name })) ]

abbrev unit_of : ℕ → List ℕ → List ℕ → Option Item
unit_of x ws name = unit_by x (get_or ws 0 0) (get_or ws 1 0) (get_or ws 2 0) (get_or ws 3 0) name

unit_again : (x y : ℕ) (m : SideChoice) (z w : ℕ) (name : List ℕ)
    → unit_by x y (side_number m) z w name ≡ Some (unit (record { capacity = x; class = y; side = m; years = z; random = w; bytes = name }))
unit_again x y Taker z w name = refl
unit_again x y Maker z w name = refl

abbrev pair_of : (ℕ → ℕ → Item) → ℕ → List ℕ → Option Item
pair_of item x ws = Some (item x (get_or ws 0 0))

curve_small : (c : CurveChoice) → curve_number c < 268435456
curve_small Straight = omega arith
curve_small Stepped = omega arith

order_small : (o : OrderChoice) → order_number o < 268435456
order_small ByRule = omega arith
order_small ByName = omega arith

side_small : (m : SideChoice) → side_number m < 268435456
side_small Taker = omega arith
side_small Maker = omega arith

-- a record that is written at a place is found there, and the next one begins where it ends
record FoundAgain (bytes : List ℕ) (at : ℕ) (i : Item) (more : List ℕ) : Type 0 where
  here : found_at bytes at ≡ as_found at i
  kind : kind_at bytes at ≡ item_kind i
  inside : at + size (item_kind i) ≤ words bytes
  past : drop (4 * (at + size (item_kind i))) bytes ≡ more

module _ (bytes : List ℕ) (at : ℕ) (more : List ℕ) where
  again : (i : Item) (v : ℕ) (ops : List ℕ) → Written i v ops → drop (4 * at) bytes ≡ layout i ++ more
      → (kind_at bytes at ≡ item_kind i → value_at bytes at ≡ v → values_from (length ops) bytes (at + 1) ≡ ops
      → drop (4 * (at + 1 + length ops)) bytes ≡ tail_of i ++ more → item_at bytes at ≡ Some i)
      → FoundAgain bytes at i more
  again i v ops w h item =
      let k = kind_is bytes at i more v ops w h in
      record {
        here = found_is bytes at i more v ops w h (item k (value_is bytes at i more v ops w h) (values_are bytes at i more v ops w h) (tail_past bytes at i more v ops w h));
        kind = k;
        inside = room bytes at i more v ops w h;
        past = after bytes at i more v ops w h;
      }

  terms_found : (t : TermsRecord) → Fits (terms t) → drop (4 * at) bytes ≡ layout (terms t) ++ more → FoundAgain bytes at (terms t) more
  terms_found t fits h =
      let all = fits.values in
      let cs = curve_small t.curve in
      let os = order_small t.order in
      again (terms t) t.«cap» (t.spread ∷ (t.threshold ∷ (curve_number t.curve ∷ (order_number t.order ∷ []))))
      (record { words_are = refl; value = all.0; few = omega arith; small = (all.1.0, (all.1.1.0, (cs, (os, tt)))); count = refl; long = refl })
      h
      (λ k v vs past.
      let f = four_values bytes at in
      item_by bytes at 1 k ∙ (ap (terms_of (value_at bytes at)) (sym f ∙ vs) ∙ (ap (λ (x : ℕ). terms_of x (t.spread ∷ (t.threshold ∷ (curve_number t.curve ∷ (order_number t.order ∷ []))))) v ∙ terms_again t.«cap» t.spread t.threshold t.curve t.order)))

  -- a record of two words
  pair_found : (item : ℕ → ℕ → Item) (x y : ℕ) → Written (item x y) x (y ∷ [])
      → (kind_at bytes at ≡ item_kind (item x y) → item_at bytes at ≡ pair_of item (value_at bytes at) (values_from 1 bytes (at + 1)))
      → drop (4 * at) bytes ≡ layout (item x y) ++ more → FoundAgain bytes at (item x y) more
  pair_found item x y w picks h =
      again (item x y) x (y ∷ []) w h
      (λ k v vs past. picks k ∙ (ap (pair_of item (value_at bytes at)) vs ∙ ap (λ (z : ℕ). pair_of item z (y ∷ [])) v))

  corner_found : (c : Corner) → Fits (corner c) → drop (4 * at) bytes ≡ layout (corner c) ++ more → FoundAgain bytes at (corner c) more
  corner_found c fits h =
      pair_found (λ x y. corner (record { quantity = x; price = y })) c.quantity c.price
      (record { words_are = refl; value = fits.values.0; few = omega arith; small = (fits.values.1.0, tt); count = refl; long = refl }) (item_by bytes at 2) h

  exit_found : (e : ExitRecord) → Fits (exit e) → drop (4 * at) bytes ≡ layout (exit e) ++ more → FoundAgain bytes at (exit e) more
  exit_found e fits h =
      pair_found (λ x y. exit (record { unit = x; price = y })) e.unit e.price
      (record { words_are = refl; value = fits.values.0; few = omega arith; small = (fits.values.1.0, tt); count = refl; long = refl }) (item_by bytes at 4) h

  years_found : (y : YearsRecord) → Fits (years y) → drop (4 * at) bytes ≡ layout (years y) ++ more → FoundAgain bytes at (years y) more
  years_found y fits h =
      pair_found (λ x z. years (record { unit = x; years = z })) y.unit y.years
      (record { words_are = refl; value = fits.values.0; few = omega arith; small = (fits.values.1.0, tt); count = refl; long = refl }) (item_by bytes at 5) h

  unit_found : (u : UnitItem) → Fits (unit u) → drop (4 * at) bytes ≡ layout (unit u) ++ more → FoundAgain bytes at (unit u) more
  unit_found u fits h =
      let all = fits.values in
      let eight : length u.bytes ≡ 8 = fits.named.0 in
      let ms = side_small u.side in
      let wide : length (layout (unit u)) ≡ 4 * 7 = omega arith in
      again (unit u) u.capacity (u.class ∷ (side_number u.side ∷ (u.years ∷ (u.random ∷ []))))
      (record { words_are = refl; value = all.0; few = omega arith; small = (all.1.0, (ms, (all.1.1.0, (all.1.1.1.0, tt)))); count = refl; long = wide })
      h
      (λ k v vs past.
      let f = four_values bytes at in
      let five : at + 1 + 4 ≡ at + 5 = omega arith in
      let name : name_at bytes (at + 5) ≡ u.bytes = ap (λ (n : ℕ). take 8 (drop (4 * n) bytes)) (sym five) ∙ (ap (take 8) past ∙ take_at u.bytes more 8 eight) in
      item_by bytes at 3 k
      ∙ (ap (λ (ws : List ℕ). unit_of (value_at bytes at) ws (name_at bytes (at + 5))) (sym f ∙ vs)
      ∙ (ap (λ (x : ℕ). unit_of x (u.class ∷ (side_number u.side ∷ (u.years ∷ (u.random ∷ [])))) (name_at bytes (at + 5))) v
      ∙ (ap (unit_of u.capacity (u.class ∷ (side_number u.side ∷ (u.years ∷ (u.random ∷ []))))) name
      ∙ unit_again u.capacity u.class u.side u.years u.random u.bytes))))

  step_found : drop (4 * at) bytes ≡ layout step_back ++ more → FoundAgain bytes at step_back more
  step_found h =
      again step_back 0 [] (record { words_are = refl; value = omega arith; few = omega arith; small = tt; count = refl; long = refl }) h
      (λ k v vs past. item_by bytes at 6 k ∙ ap (λ (n : ℕ). cond (eqb n 0) (Some step_back) None) v)

  close_found : drop (4 * at) bytes ≡ layout close ++ more → FoundAgain bytes at close more
  close_found h =
      again close 0 [] (record { words_are = refl; value = omega arith; few = omega arith; small = tt; count = refl; long = refl }) h
      (λ k v vs past. item_by bytes at 7 k ∙ ap (λ (n : ℕ). cond (eqb n 0) (Some close) None) v)

  found_again : (i : Item) → Fits i → drop (4 * at) bytes ≡ layout i ++ more → FoundAgain bytes at i more
  found_again (terms t) fits h = terms_found t fits h
  found_again (corner c) fits h = corner_found c fits h
  found_again (unit u) fits h = unit_found u fits h
  found_again (exit e) fits h = exit_found e fits h
  found_again (years y) fits h = years_found y fits h
  found_again step_back fits h = step_found h
  found_again close fits h = close_found h

reads_from : (items : List Item) (bytes : List ℕ) (at : ℕ) → AllByRecursion Fits items → drop (4 * at) bytes ≡ flat_map layout items → found bytes at ≡ in_places at items
reads_from [] bytes at fits h =
    let left = length-drop (4 * at) bytes in
    let none = ap length h in
    found_none bytes at (omega arith)
reads_from (i ∷ items) bytes at fits h =
    let one = size_some (item_kind i) in
    let f = found_again bytes at (flat_map layout items) i fits.0 h in
    let inside = f.inside in
    let more = reads_from items bytes (at + size (item_kind i)) fits.1 f.past in
    found_more bytes at (omega arith)
    ∙ (ap (λ (k : ℕ). found_at bytes at ∷ found bytes (at + size k)) f.kind
    ∙ (ap (λ (g : Found). g ∷ found bytes (at + size (item_kind i))) f.here ∙ ap (λ (fs : List Found). as_found at i ∷ fs) more))

pub reads_back : ReadsBack
reads_back items fits = reads_from items (flat_map layout items) 0 fits refl
