-- Looking at the units one by one finds the exits of a round, and the rows of a roll. Assumes nothing.
use Rattle.std.proofs.Common.{◌≡◌, ℕ, ◌+◌, ◌<◌, ◌≤◌, Bool, true, false, ◌||◌, cond, List, [], ◌∷◌, ◌++◌, length, drop, fold, Some, None, Option, sym, refl, ap, ◌∙◌, append_assoc, append-nil, arith}
use Rattle.std.specs.Option.{option_to_list}
use Rattle.std.proofs.lemmas.List.{drop_more, at_drop_all}
use Rattle.std.proofs.lemmas.List.Sorted.{length_permutation}
use Rattle.std.specs.List.{refill}
use Rattle.arrayvec.proofs.ArrayVecLemmas.{items-with_items}
use Rattle.auction.specs.Awards.{among, awarded_exits, is_awarded}
use Rattle.auction.specs.Reading.{settlement_of}
use Rattle.auction.specs.Rolls.{row_of, rows_of, roll_of}
use Rattle.auction.specs.State.{State, ranked_exits}
use Rattle.book.specs.Books.{exits_up_to, no_unit, unit_at, years_at}
use Rattle.book.specs.declared.unit.Unit.{Unit as Row}
use Rattle.clearing.specs.declared.settlement.Settlement.{Settlement}
use Rattle.ranking.specs.Ahead.{price_ahead, roll_ahead}
use Rattle.ranking.specs.declared.exits.Exit.{Exit}
use Rattle.ranking.specs.declared.roll.RollRow.{RollRow}
use Rattle.ranking.specs.Rankings.{placed, ranking_of}
use Rattle.ranking.proofs.Ranks.{placed_shuffled}

-- what one more unit gives, if anything, stands behind what the units before it gave
found_on : {X : Type 0} (found after whole rest all : List X) (item : Option X) → whole ≡ option_to_list item ++ rest → found ++ whole ≡ all → after ≡ found ++ option_to_list item → after ++ rest ≡ all
found_on {X = X} found after whole rest all item split going put =
    ap (λ (xs : List X). xs ++ rest) put ∙ append_assoc found (option_to_list item) rest ∙ ap (λ (xs : List X). found ++ xs) (sym split) ∙ going

rows_on : (s : State) (settled : Settlement) (i : ℕ) (us : List Row) (found after all : List RollRow) (row : Option RollRow) → i < length us → found ++ rows_of s settled i (drop i us) ≡ all → row ≡ row_of s settled i → after ≡ found ++ option_to_list row → after ++ rows_of s settled (i + 1) (drop (i + 1) us) ≡ all
rows_on s settled i us found after all row lt going read put =
    let rest : List RollRow = rows_of s settled (i + 1) (drop (i + 1) us) in
    found_on found after _ rest all row
    (ap (rows_of s settled i) (drop_more us i no_unit lt)
    ∙ sym (ap (λ (o : Option RollRow). option_to_list o ++ rest) read))
    going put

-- the row of a unit that is awarded, and of one that is not

abbrev row_if : State → Settlement → ℕ → Bool → Option RollRow
row_if s settled i b =
    let u : Row = unit_at s.book i in
    let award : ℕ × ℕ = cond b (u.enrolled.capacity, years_at settled.price u) (0, 0) in
    cond b (Some (record { name = u.enrolled.name; capacity = award.0; years = award.1; unit = i })) None

row_awarded : (s : State) (settled : Settlement) (i : ℕ) → is_awarded s settled i ≡ true → row_of s settled i ≡ Some (record { name = (unit_at s.book i).enrolled.name; capacity = (unit_at s.book i).enrolled.capacity; years = years_at settled.price (unit_at s.book i); unit = i })
row_awarded s settled i h = ap (row_if s settled i) h

row_none : (s : State) (settled : Settlement) (i : ℕ) → is_awarded s settled i ≡ false → row_of s settled i ≡ None
row_none s settled i h = ap (row_if s settled i) h

-- the unit i has been looked at, and its row put if it is awarded
module _ (s : State) (settled : Settlement) (i : ℕ) (u : Row) (awarded : List Exit) (was : Bool) (found after all : List RollRow) (here : i < length s.book.units) (read : u ≡ unit_at s.book i) (exits : awarded ≡ awarded_exits s settled) (asked : was ≡ (u.standing.inside || among i awarded)) (going : found ++ rows_of s settled i (drop i s.book.units) ≡ all) where
  asked_is : was ≡ is_awarded s settled i
  asked_is =
      asked ∙ ap (λ (v : Row). v.standing.inside || among i awarded) read
      ∙ ap (λ (es : List Exit). (unit_at s.book i).standing.inside || among i es) exits

  pub row_put : (years : ℕ) → was ≡ true → years ≡ years_at settled.price u → after ≡ found ++ record { name = u.enrolled.name; capacity = u.enrolled.capacity; years = years; unit = i } ∷ [] → after ++ rows_of s settled (i + 1) (drop (i + 1) s.book.units) ≡ all
  row_put years awards is put =
      let for_years = ap (λ (n : ℕ). found ++ record { name = u.enrolled.name; capacity = u.enrolled.capacity; years = n; unit = i } ∷ []) is in
      let of_unit = ap (λ (v : Row). found ++ record { name = v.enrolled.name; capacity = v.enrolled.capacity; years = years_at settled.price v; unit = i } ∷ []) read in
      rows_on s settled i s.book.units found after all _ here going (sym (row_awarded s settled i (sym asked_is ∙ awards))) (put ∙ for_years ∙ of_unit)

  pub row_passed : was ≡ false → after ≡ found → after ++ rows_of s settled (i + 1) (drop (i + 1) s.book.units) ≡ all
  row_passed passes same =
      rows_on s settled i s.book.units found after all _ here going (sym (row_none s settled i (sym asked_is ∙ passes))) (same ∙ sym (append-nil found))

-- every unit has been looked at, and what was found is ranked

all_found : {X : Type 0} (F : List Row → List X) → F [] ≡ [] → (i : ℕ) (us : List Row) (found all : List X) → length us ≤ i → found ++ F (drop i us) ≡ all → found ≡ all
all_found {X = X} F none i us found all le going =
    sym (append-nil found) ∙ sym (ap (λ (xs : List X). found ++ xs) (at_drop_all F us i le ∙ none)) ∙ going

pub exits_ranked : (s : State) (us : List Row) (i : ℕ) (found after : List Exit) → us ≡ s.book.units → length us ≤ i → found ++ exits_up_to s.top i (drop i s.book.units) ≡ exits_up_to s.top 0 s.book.units → after ≡ ranking_of (price_ahead s.ahead) found → after ≡ ranked_exits s
exits_ranked s us i found after these le going ranked =
    let same = ap length these in
    ranked ∙ ap (ranking_of (price_ahead s.ahead)) (all_found (exits_up_to s.top i) refl i s.book.units found _ (omega arith) going)

pub rows_ranked : (s : State) (settled : Settlement) (us : List Row) (i : ℕ) (found after : List RollRow) → us ≡ s.book.units → length us ≤ i → found ++ rows_of s settled i (drop i s.book.units) ≡ rows_of s settled 0 s.book.units → after ≡ ranking_of roll_ahead found → settled ≡ settlement_of s → after ≡ roll_of s (settlement_of s)
rows_ranked s settled us i found after these le going ranked is =
    let same = ap length these in
    ranked ∙ ap (ranking_of roll_ahead) (all_found (rows_of s settled i) refl i s.book.units found _ (omega arith) going)
    ∙ ap (λ (x : Settlement). roll_of s x) is

-- what was found, ranked where it stands

ranked_length : {X : Type 0} (ahead : X → X → Bool) (ranked items : List X) → length (fold (λ r x. placed ahead x r) ranked items) ≡ length ranked + length items
ranked_length ahead ranked [] = omega arith
ranked_length ahead ranked (x ∷ items) =
    let more = length_permutation _ _ (placed_shuffled ahead x ranked) in
    let rest = ranked_length ahead (placed ahead x ranked) items in
    omega arith

pub ranked_there : {X : Type 0} (ahead : X → X → Bool) (items lent after : List X) → lent ≡ items → after ≡ ranking_of ahead lent → refill (length items) items after ≡ ranking_of ahead items
ranked_there {X = X} ahead items lent after is ranked =
    let e : after ≡ ranking_of ahead items = ranked ∙ ap (ranking_of ahead) is in
    let same = ap length e in
    let long = ranked_length ahead [] items in
    items-with_items (record { items = items }) after (omega arith) ∙ e
