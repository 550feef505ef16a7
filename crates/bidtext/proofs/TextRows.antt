-- A text that is read line by line. Assumes nothing.
use Rattle.std.proofs.Common.{◌≡◌, ℕ, ◌+◌, ◌<◌, ◌≤◌, List, [], ◌∷◌, ◌++◌, length, get_or, drop, Ok, Err, Result, sym, refl, ap, ◌∙◌, subst, append_assoc, append-nil, arith}
use Rattle.bidfile.specs.Found.{found}
use Rattle.bidfile.specs.Items.{Item}
use Rattle.bidfile.specs.Layout.{Fits, layout, ReadsBack}
use Rattle.bidtext.specs.declared.expected.Expected.{Expected}
use Rattle.bidtext.specs.declared.faults.TextFault.{TextFault}
use Rattle.bidtext.specs.declared.faults.TextFault.TheVariants.{Line, Memory}
use Rattle.bidtext.specs.Files.{rows, line_items, then_lines, items_from, text_items, WordsOf, LineAdded, TextRead}
use Rattle.bidtext.proofs.JoinedLists.{joined_append, all_append}
use Rattle.std.proofs.lemmas.List.{drop_more, drop_all}
use Rattle.std.proofs.lemmas.List.FromFn.{length-enumerate_from, get_or-enumerate_from}
use Rattle.std.specs.List.{flat_map, AllByRecursion, enumerate_from}

-- records before others that are yet to be read
abbrev pub before : List Item → Result (List Item) (ℕ × Expected) → Result (List Item) (ℕ × Expected)
before xs (Ok ys) = Ok (xs ++ ys)
before xs (Err f) = Err f

-- what was read of the first n lines of a text
pub record SoFar (text : List ℕ) (n : ℕ) (words : List ℕ) : Type 0 where
  pub items : List Item
  pub fit : AllByRecursion Fits items
  pub words_are : words ≡ flat_map layout items
  pub left : before items (items_from (n + 1) (drop n (rows text))) ≡ text_items text

before_none : (r : Result (List Item) (ℕ × Expected)) → before [] r ≡ r
before_none (Ok ys) = refl
before_none (Err f) = refl

pub start : (text words : List ℕ) → words ≡ [] → SoFar text 0 words
unfolding text_items
start text words none = record { items = []; fit = tt; words_are = none; left = before_none (items_from 1 (rows text)) }

before_line : (items xs : List Item) (n : ℕ) (r : Result (List Item) (ℕ × Expected)) → before items (then_lines n (Ok xs) r) ≡ before (items ++ xs) r
before_line items xs n (Ok ys) = ap (λ (l : List Item). Ok l) (sym (append_assoc items xs ys))
before_line items xs n (Err f) = refl

-- all lines were read
pub done : (text : List ℕ) (n : ℕ) (words : List ℕ) → SoFar text n words → ReadsBack → length (rows text) ≤ n → (items : List Item) × (text_items text ≡ Ok items) × WordsOf items words
done text n words s back le = (
  s.items,
  sym s.left ∙ ap (λ (ls : List (List ℕ)). before s.items (items_from (n + 1) ls)) (drop_all n (rows text) le) ∙ ap (λ (l : List Item). Ok l) (append-nil s.items),
  record { fit = s.fit; words_are = s.words_are; found_are = ap (λ (w : List ℕ). found w 0) s.words_are ∙ back s.items s.fit },
)

-- the line that an iterator over the lines and their places gave
module _ (text : List ℕ) (n : ℕ) (words : List ℕ) (s : SoFar text n words) (place : ℕ) (line : List ℕ) (lt : n < length (enumerate_from 0 (rows text))) (given : ◌≡◌ {A = ℕ × List ℕ} (place, line) (get_or (enumerate_from 0 (rows text)) n (place, line))) where
  inside : n < length (rows text)
  inside = subst (λ (k : ℕ). n < k) (length-enumerate_from 0 (rows text)) lt

  pair : ◌≡◌ {A = ℕ × List ℕ} (place, line) (0 + n, get_or (rows text) n line)
  pair = given ∙ get_or-enumerate_from 0 (rows text) n (place, line) inside

  number : place + 1 ≡ n + 1
  number = let same = ap (λ (p : ℕ × List ℕ). p.0) pair in omega arith

  cut : drop n (rows text) ≡ line ∷ drop (n + 1) (rows text)
  cut = drop_more (rows text) n line inside ∙ ap (λ (p : ℕ × List ℕ). p.1 ∷ drop (n + 1) (rows text)) (sym pair)

  pub next : (new : List ℕ) (xs : List Item) → line_items line ≡ Ok xs → AllByRecursion Fits xs → new ≡ words ++ flat_map layout xs → SoFar text (n + 1) new
  next new xs is fits added =
      let lines = drop (n + 1) (rows text) in
      record {
        items = s.items ++ xs;
        fit = all_append Fits s.items xs s.fit fits;
        words_are = added ∙ ap (λ (w : List ℕ). w ++ flat_map layout xs) s.words_are ∙ sym (joined_append layout s.items xs);
        left =
            sym (before_line s.items xs (n + 1) (items_from (n + 1 + 1) lines))
            ∙ ap (λ (r : Result (List Item) Expected). before s.items (then_lines (n + 1) r (items_from (n + 1 + 1) lines))) (sym is)
            ∙ ap (λ (ls : List (List ℕ)). before s.items (items_from (n + 1) ls)) (sym cut)
            ∙ s.left;
      }

  pub faulty : (new : List ℕ) (fault : TextFault) → LineAdded line (place + 1) words new (Err fault) → TextRead text (Err fault)
  faulty new (Line m e) h =
      let lines = drop (n + 1) (rows text) in
      sym s.left
      ∙ ap (λ (ls : List (List ℕ)). before s.items (items_from (n + 1) ls)) cut
      ∙ ap (λ (r : Result (List Item) Expected). before s.items (then_lines (n + 1) r (items_from (n + 1 + 1) lines))) h.1
      ∙ ap (λ (k : ℕ). Err (k, e)) (sym (h.0 ∙ number))
  faulty new Memory h = tt
