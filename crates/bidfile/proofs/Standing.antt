-- A record that is found stands in the file as it is written.
use Rattle.std.proofs.Common.{◌≡◌, ℕ, suc, ◌+◌, ◌*◌, ◌≤◌, true, cond, eqb, leb, List, [], ◌∷◌, ◌++◌, take, drop, Some, None, Option, sym, refl, ap, ◌∙◌, subst, add_assoc, arith}
use Rattle.std.proofs.lemmas.Bool.{and_parts, leb-true, eqb-true, cond_both}
use Rattle.std.proofs.lemmas.Bool.Decides.{nat_tests}
use Rattle.std.specs.List.{flat_map}
use Rattle.bidfile.specs.declared.records.CurveChoice.{CurveChoice}
use Rattle.bidfile.specs.declared.records.CurveChoice.TheVariants.{Straight, Stepped}
use Rattle.bidfile.specs.declared.records.OrderChoice.{OrderChoice}
use Rattle.bidfile.specs.declared.records.OrderChoice.TheVariants.{ByRule, ByName}
use Rattle.bidfile.specs.declared.records.SideChoice.{SideChoice}
use Rattle.bidfile.specs.declared.records.SideChoice.TheVariants.{Taker, Maker}
use Rattle.bidfile.specs.Found.{found_at, item_at, known_kind, name_at, operands, plain_words, terms_at, unit_at, bare_at}
use Rattle.bidfile.specs.Items.{Item, terms, corner, unit, exit, years, step_back, close, item_kind, size, selected, curve_number, order_number, side_number}
use Rattle.bidfile.specs.Layout.{head, tail_of, word_bytes, words_of}
use Rattle.bidfile.specs.Reading.{Stands}
use Rattle.bidfile.specs.Words.{words, kind_at, value_at}
use Rattle.bidfile.proofs.ItemKinds.{one, two, three, four, five, six, seven, item_chosen, found_kind}
use Rattle.bidfile.proofs.WordBytes.{Bytes, words_from, values_from, words_taken, plain_values, head_word}

-- what a record of a kind is made of: its head word, n operands, and m bytes more
pub record Made (bytes : List ℕ) (at n m : ℕ) (i : Item) : Type 0 where
  pub words_are : words_of i ≡ head (kind_at bytes at) (value_at bytes at) ∷ values_from n bytes (at + 1)
  pub tail_is : tail_of i ≡ take m (drop (4 * (at + suc n)) bytes)

made_stands : (bytes : List ℕ) (at n m : ℕ) (i : Item) → Bytes bytes → Made bytes at n m i → 4 * size (item_kind i) ≡ 4 * suc n + m
    → at + suc n ≤ words bytes → plain_words n bytes (at + 1) ≡ true → Stands bytes at i
made_stands bytes at n m i small made e room plain =
    let first = head_word bytes at (kind_at bytes at) refl in
    let rest = plain_values n bytes (at + 1) plain in
    let all : words_from (suc n) bytes at ≡ words_of i = cc made.words_are in
    ap (λ (k : ℕ). take k (drop (4 * at) bytes)) e
    ∙ (words_taken (suc n) m bytes at small room
    ∙ (ap (λ (ws : List ℕ). flat_map word_bytes ws ++ take m (drop (4 * (at + suc n)) bytes)) all
    ∙ ap (λ (xs : List ℕ). flat_map word_bytes (words_of i) ++ xs) (sym made.tail_is)))

-- what a field selects has that field's number
pub selected_back : {A : Type 0} (number : A → ℕ) (zeroth first : A) → number zeroth ≡ 0 → number first ≡ 1 → (n : ℕ) (a : A) → selected zeroth first n ≡ Some a → number a ≡ n
selected_back number zeroth first e f n a h = grind (arith, nat_tests)

-- a record of each kind, over plain numbers
terms_words : (o : Option CurveChoice) (p : Option OrderChoice) (x y z a b : ℕ) (i : Item)
    → ((c : CurveChoice) → o ≡ Some c → curve_number c ≡ a) → ((d : OrderChoice) → p ≡ Some d → order_number d ≡ b)
    → elim o [ None ↦ None | Some curve ↦ elim p [ None ↦ None | Some order ↦ Some (terms (record { «cap» = x; spread = y; threshold = z; curve = curve; order = order })) ] ] ≡ Some i
    → (words_of i ≡ head 1 x ∷ (y ∷ (z ∷ (a ∷ (b ∷ []))))) × (tail_of i ≡ [])
terms_words None p x y z a b i f g h = let never : ◌≡◌ {A = ℕ} 0 1 = cc in absurd (omega arith)
terms_words (Some c) None x y z a b i f g h = let never : ◌≡◌ {A = ℕ} 0 1 = cc in absurd (omega arith)
terms_words (Some c) (Some d) x y z a b i f g h =
    let e : terms (record { «cap» = x; spread = y; threshold = z; curve = c; order = d }) ≡ i = cc in
    let P : Item → Type 0 = λ j. (words_of j ≡ head 1 x ∷ (y ∷ (z ∷ (a ∷ (b ∷ []))))) × (tail_of j ≡ []) in
    let ca = f c refl in
    let db = g d refl in
    subst P e ((cc), refl)

unit_words : (o : Option SideChoice) (x y a z w : ℕ) (name : List ℕ) (i : Item) → ((b : SideChoice) → o ≡ Some b → side_number b ≡ a)
    → elim o [ None ↦ None | Some side ↦ Some (unit (record { capacity = x; class = y; side = side; years = z; random = w; bytes = name })) ] ≡ Some i
    → (words_of i ≡ head 3 x ∷ (y ∷ (a ∷ (z ∷ (w ∷ []))))) × (tail_of i ≡ name)
unit_words None x y a z w name i f h = let never : ◌≡◌ {A = ℕ} 0 1 = cc in absurd (omega arith)
unit_words (Some b) x y a z w name i f h =
    let e : unit (record { capacity = x; class = y; side = b; years = z; random = w; bytes = name }) ≡ i = cc in
    let P : Item → Type 0 = λ j. (words_of j ≡ head 3 x ∷ (y ∷ (a ∷ (z ∷ (w ∷ []))))) × (tail_of j ≡ name) in
    let ba = f b refl in
    subst P e ((cc), refl)

bare_words : (item : Item) (v k : ℕ) (i : Item) → words_of item ≡ head k 0 ∷ [] → tail_of item ≡ [] → cond (eqb v 0) (Some item) None ≡ Some i
    → (words_of i ≡ head k v ∷ []) × (tail_of i ≡ [])
bare_words item v k i ws ts =
    let P : Option Item → Type 0 = λ o. o ≡ Some i → (words_of i ≡ head k v ∷ []) × (tail_of i ≡ []) in
    cond_both (eqb v 0) (Some item) None P
    (λ e h. let z = eqb-true v 0 e in let is : item ≡ i = cc in ((cc), (cc)))
    (λ e h. let never : ◌≡◌ {A = ℕ} 0 1 = cc in absurd (omega arith))

pub four_values : (bytes : List ℕ) (at : ℕ) → values_from 4 bytes (at + 1) ≡ value_at bytes (at + 1) ∷ (value_at bytes (at + 2) ∷ (value_at bytes (at + 3) ∷ (value_at bytes (at + 4) ∷ [])))
four_values bytes at = simp add_assoc

module _ (bytes : List ℕ) (at : ℕ) (i : Item) where
  terms_made : kind_at bytes at ≡ 1 → terms_at bytes at ≡ Some i → Made bytes at 4 0 i
  terms_made k h =
      let w = terms_words (selected Straight Stepped (value_at bytes (at + 3))) (selected ByRule ByName (value_at bytes (at + 4))) (value_at bytes at) (value_at bytes (at + 1)) (value_at bytes (at + 2)) (value_at bytes (at + 3)) (value_at bytes (at + 4)) i (selected_back curve_number Straight Stepped refl refl (value_at bytes (at + 3))) (selected_back order_number ByRule ByName refl refl (value_at bytes (at + 4))) h in
      let f = four_values bytes at in
      record { words_are = cc w.0; tail_is = w.1 }

  -- a record of two words
  pair_made : (n : ℕ) (item : ℕ → ℕ → Item) → ((x y : ℕ) → words_of (item x y) ≡ head n x ∷ (y ∷ [])) → ((x y : ℕ) → tail_of (item x y) ≡ [])
      → kind_at bytes at ≡ n → Some (item (value_at bytes at) (value_at bytes (at + 1))) ≡ Some i → Made bytes at 1 0 i
  pair_made n item ws ts k h =
      let x = value_at bytes at in
      let y = value_at bytes (at + 1) in
      let e : item x y ≡ i = cc in
      record { words_are = sym (ap words_of e) ∙ ws x y ∙ ap (λ (m : ℕ). head m x ∷ (y ∷ [])) (sym k); tail_is = sym (ap tail_of e) ∙ ts x y }

  unit_made : kind_at bytes at ≡ 3 → unit_at bytes at ≡ Some i → Made bytes at 4 8 i
  unit_made k h =
      let w = unit_words (selected Taker Maker (value_at bytes (at + 2))) (value_at bytes at) (value_at bytes (at + 1)) (value_at bytes (at + 2)) (value_at bytes (at + 3)) (value_at bytes (at + 4)) (name_at bytes (at + 5)) i (selected_back side_number Taker Maker refl refl (value_at bytes (at + 2))) h in
      let f = four_values bytes at in
      record { words_are = cc w.0; tail_is = w.1 }

  bare_made : (item : Item) (n : ℕ) → words_of item ≡ head n 0 ∷ [] → tail_of item ≡ [] → kind_at bytes at ≡ n → bare_at item bytes at ≡ Some i → Made bytes at 0 0 i
  bare_made item n ws ts k h =
      let w = bare_words item (value_at bytes at) n i ws ts h in
      record { words_are = w.0 ∙ ap (λ (m : ℕ). head m (value_at bytes at) ∷ []) (sym k); tail_is = w.1 }

  module _ (small : Bytes bytes) (room : at + size (kind_at bytes at) ≤ words bytes) (plain : plain_words (operands (kind_at bytes at)) bytes (at + 1) ≡ true) (same : item_kind i ≡ kind_at bytes at) where
    by_kind : (k n m : ℕ) → kind_at bytes at ≡ k → operands k ≡ n → 4 * size k ≡ 4 * suc n + m → suc n ≤ size k → Made bytes at n m i → Stands bytes at i
    by_kind k n m e p q r made =
        let sized = ap size (same ∙ e) in
        let roomy = ap (λ (j : ℕ). at + size j) e in
        made_stands bytes at n m i small made (ap (λ (s : ℕ). 4 * s) sized ∙ q) (omega arith)
        (ap (λ (j : ℕ). plain_words j bytes (at + 1)) (sym (ap operands e ∙ p)) ∙ plain)

pub stands : (bytes : List ℕ) (at : ℕ) (i : Item) → Bytes bytes → known_kind (kind_at bytes at) ≡ true → (found_at bytes at).whole ≡ true
    → item_at bytes at ≡ Some i → Stands bytes at i
stands bytes at i small known whole is =
    let parts = and_parts (leb (at + size (kind_at bytes at)) (words bytes)) (plain_words (operands (kind_at bytes at)) bytes (at + 1)) whole in
    let room = leb-true (at + size (kind_at bytes at)) (words bytes) parts.0 in
    let same = found_kind bytes at i known is in
    elim (item_chosen bytes at i known is) [
      | one k h ↦ by_kind bytes at i small room parts.1 same 1 4 0 k refl refl (omega arith) (terms_made bytes at i k h)
      | two k h ↦ by_kind bytes at i small room parts.1 same 2 1 0 k refl refl (omega arith) (pair_made bytes at i 2 (λ x y. corner (record { quantity = x; price = y })) (λ x y. refl) (λ x y. refl) k h)
      | three k h ↦ by_kind bytes at i small room parts.1 same 3 4 8 k refl refl (omega arith) (unit_made bytes at i k h)
      | four k h ↦ by_kind bytes at i small room parts.1 same 4 1 0 k refl refl (omega arith) (pair_made bytes at i 4 (λ x y. exit (record { unit = x; price = y })) (λ x y. refl) (λ x y. refl) k h)
      | five k h ↦ by_kind bytes at i small room parts.1 same 5 1 0 k refl refl (omega arith) (pair_made bytes at i 5 (λ x y. years (record { unit = x; years = y })) (λ x y. refl) (λ x y. refl) k h)
      | six k h ↦ by_kind bytes at i small room parts.1 same 6 0 0 k refl refl (omega arith) (bare_made bytes at i step_back 6 refl refl k h)
      | seven k h ↦ by_kind bytes at i small room parts.1 same 7 0 0 k refl refl (omega arith) (bare_made bytes at i close 7 refl refl k h)
    ]
