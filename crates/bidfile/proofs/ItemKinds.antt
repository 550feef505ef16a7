-- The kind of a record that is found, case by case.
use Rattle.std.proofs.Common.{◌≡◌, ℕ, ◌≤◌, Bool, true, false, cond, eqb, List, ◌∷◌, Some, None, Ok, Err, Option, Result, sym, refl, ◌∙◌, arith}
use Rattle.std.proofs.lemmas.Bool.{cond_both, eqb-true, eqb-false}
use Rattle.std.proofs.lemmas.Bool.Decides.{nat_tests}
use Rattle.bidfile.specs.declared.fault.FileQuestion.{FileQuestion}
use Rattle.bidfile.specs.declared.fault.FileQuestion.TheVariants.{Kind, Words, Turn, Fields}
use Rattle.bidfile.specs.declared.records.Due.{Due}
use Rattle.bidfile.specs.Found.{Found, file_question, found_at, handed, known_kind, is_some, item_at, terms_at, corner_at, unit_at, exit_at, years_at, bare_at}
use Rattle.bidfile.specs.Items.{Item, step_back, close, item_kind, in_turn}
use Rattle.bidfile.specs.Reading.{asked, read_out}
use Rattle.bidfile.specs.Words.{kind_at}

-- a kind of seven, and what was chosen for it
pub data Chosen (kind : ℕ) (a b c d e f g : Option Item) (i : Item) : Type 0 where
  one : kind ≡ 1 → a ≡ Some i → Chosen kind a b c d e f g i
  two : kind ≡ 2 → b ≡ Some i → Chosen kind a b c d e f g i
  three : kind ≡ 3 → c ≡ Some i → Chosen kind a b c d e f g i
  four : kind ≡ 4 → d ≡ Some i → Chosen kind a b c d e f g i
  five : kind ≡ 5 → e ≡ Some i → Chosen kind a b c d e f g i
  six : kind ≡ 6 → f ≡ Some i → Chosen kind a b c d e f g i
  seven : kind ≡ 7 → g ≡ Some i → Chosen kind a b c d e f g i

kind_bounds : (kind : ℕ) → known_kind kind ≡ true → (1 ≤ kind) × (kind ≤ 7)
kind_bounds kind known = grind (arith, nat_tests)

chosen : (kind : ℕ) (a b c d e f g : Option Item) (i : Item) → known_kind kind ≡ true
    → cond (eqb kind 1) a (cond (eqb kind 2) b (cond (eqb kind 3) c (cond (eqb kind 4) d (cond (eqb kind 5) e (cond (eqb kind 6) f g))))) ≡ Some i
    → Chosen kind a b c d e f g i
chosen kind a b c d e f g i known =
    let G : Option Item → Type 0 = λ o. o ≡ Some i → Chosen kind a b c d e f g i in
    let bounds = kind_bounds kind known in
    cond_both (eqb kind 1) _ _ G (λ h. one (eqb-true kind 1 h)) (λ n1.
    cond_both (eqb kind 2) _ _ G (λ h. two (eqb-true kind 2 h)) (λ n2.
    cond_both (eqb kind 3) _ _ G (λ h. three (eqb-true kind 3 h)) (λ n3.
    cond_both (eqb kind 4) _ _ G (λ h. four (eqb-true kind 4 h)) (λ n4.
    cond_both (eqb kind 5) _ _ G (λ h. five (eqb-true kind 5 h)) (λ n5.
    cond_both (eqb kind 6) _ _ G (λ h. six (eqb-true kind 6 h))
    (λ n6. seven (omega (arith, bounds.0, bounds.1, eqb-false kind 1 n1, eqb-false kind 2 n2, eqb-false kind 3 n3, eqb-false kind 4 n4, eqb-false kind 5 n5, eqb-false kind 6 n6))))))))

pub item_chosen : (bytes : List ℕ) (at : ℕ) (i : Item) → known_kind (kind_at bytes at) ≡ true → item_at bytes at ≡ Some i
    → Chosen (kind_at bytes at) (terms_at bytes at) (corner_at bytes at) (unit_at bytes at) (exit_at bytes at) (years_at bytes at) (bare_at step_back bytes at) (bare_at close bytes at) i
item_chosen bytes at i known is = chosen (kind_at bytes at) _ _ _ _ _ _ _ i known is

-- the record that is read out is there, after four answers "yes"
pub record ReadOut (kind : ℕ) (whole : Bool) (item : Option Item) (i : Item) : Type 0 where
  pub known : known_kind kind ≡ true
  pub complete : whole ≡ true
  pub is : item ≡ Some i

never : (q : FileQuestion) (i : Item) → ◌≡◌ {A = Result Item FileQuestion} (Err q) (Ok i) → ⊥
never q i h = let z : ◌≡◌ {A = ℕ} 0 1 = cc in omega arith

parts : (k w t : Bool) (item : Option Item) (i : Item)
    → read_out (cond k (cond w (cond t (Ok tt) (Err Turn)) (Err Words)) (Err Kind)) item ≡ Ok i
    → (k ≡ true) × (w ≡ true) × (item ≡ Some i)
parts true true true (Some j) i h = (refl, refl, cc)
parts true true true None i h = absurd (never Fields i h)
parts true true false item i h = absurd (never Turn i h)
parts true false t item i h = absurd (never Words i h)
parts false w t item i h = absurd (never Kind i h)

pub read_parts : (due : Due) (bytes : List ℕ) (at : ℕ) (i : Item) → read_out (asked due (found_at bytes at)) (item_at bytes at) ≡ Ok i
    → ReadOut (kind_at bytes at) (found_at bytes at).whole (item_at bytes at) i
read_parts due bytes at i h =
    let p = parts (known_kind (kind_at bytes at)) (found_at bytes at).whole (in_turn due (kind_at bytes at)) (item_at bytes at) i h in
    record { known = p.0; complete = p.1; is = p.2 }

-- what the reader makes of a record or a question at a place
abbrev pub placed : ℕ → Result Item FileQuestion → Result (Option (ℕ × Item)) (ℕ × ℕ)
placed at (Ok i) = Ok (Some (at, i))
placed at (Err q) = Err (file_question q, at)

abbrev by_answers : Option ℕ → Option Item → ℕ → Result (Option (ℕ × Item)) (ℕ × ℕ)
by_answers first item at = elim first [ Some n ↦ Err (n, at) | None ↦ elim item [ None ↦ Ok None | Some i ↦ Ok (Some (at, i)) ] ]

answers_placed : (k w t : Bool) (item : Option Item) (at : ℕ)
    → by_answers (cond k (cond w (cond t (cond (is_some item) None (Some 27)) (Some 26)) (Some 25)) (Some 24)) item at
    ≡ placed at (read_out (cond k (cond w (cond t (Ok tt) (Err Turn)) (Err Words)) (Err Kind)) item)
answers_placed true true true (Some j) at = refl
answers_placed true true true None at = refl
answers_placed true true false item at = refl
answers_placed true false t item at = refl
answers_placed false w t item at = refl

pub handed_placed : (due : Due) (f : Found) (fs : List Found) → handed due (f ∷ fs) ≡ placed f.place (read_out (asked due f) f.item)
handed_placed due f fs = answers_placed (known_kind f.kind) f.whole (in_turn due f.kind) f.item f.place

-- each record that is found has the kind that is found
terms_kind : (bytes : List ℕ) (at : ℕ) (i : Item) → terms_at bytes at ≡ Some i → item_kind i ≡ 1
terms_kind bytes at i h = grind (arith, nat_tests)

unit_kind : (bytes : List ℕ) (at : ℕ) (i : Item) → unit_at bytes at ≡ Some i → item_kind i ≡ 3
unit_kind bytes at i h = grind (arith, nat_tests)

bare_kind : (item : Item) (bytes : List ℕ) (at : ℕ) (i : Item) → bare_at item bytes at ≡ Some i → item_kind i ≡ item_kind item
bare_kind item bytes at i h = grind (arith, nat_tests)

pub found_kind : (bytes : List ℕ) (at : ℕ) (i : Item) → known_kind (kind_at bytes at) ≡ true → item_at bytes at ≡ Some i
    → item_kind i ≡ kind_at bytes at
found_kind bytes at i known is =
    elim (item_chosen bytes at i known is) [
      | one k h ↦ terms_kind bytes at i h ∙ sym k
      | two k h ↦ cc
      | three k h ↦ unit_kind bytes at i h ∙ sym k
      | four k h ↦ cc
      | five k h ↦ cc
      | six k h ↦ bare_kind step_back bytes at i h ∙ sym k
      | seven k h ↦ bare_kind close bytes at i h ∙ sym k
    ]
