-- The roll has at most one row for each unit, and a book at most 512 units; so 512 rows are enough.
use Rattle.std.proofs.Common.{◌≡◌, ℕ, ◌+◌, ◌≤◌, Bool, true, false, cond, leb, List, [], ◌∷◌, ◌++◌, length, take, drop, Some, None, Ok, Err, fold, Option, Result, refl, ap, ◌∙◌, arith, length-append, le-leb, leb-true}
use Rattle.std.specs.Option.{option_to_list}
use Rattle.std.specs.Result.{IsOk}
use Rattle.std.proofs.lemmas.List.{take-append-le, take_all}
use Rattle.std.proofs.lemmas.Bool.{and_parts}
use Rattle.auction.specs.declared.clocks.Stage.TheVariants.{Settled}
use Rattle.auction.specs.declared.clocks.Stamp.{Stamp}
use Rattle.auction.specs.declared.refusal.Refusal.{Refusal}
use Rattle.auction.specs.Reading.{numbered, settlement_of}
use Rattle.auction.specs.Rolls.{row_of, rows_of, roll_of, roll_read}
use Rattle.auction.specs.State.{State, current}
use Rattle.auction.specs.Steps.{auction_question}
use Rattle.book.specs.Books.{Books}
use Rattle.book.specs.declared.unit.Unit.{Unit as Row}
use Rattle.book.specs.Lawful.{lawful}
use Rattle.clearing.specs.declared.settlement.Settlement.{Settlement}
use Rattle.ranking.specs.Ahead.{roll_ahead}
use Rattle.ranking.specs.declared.roll.RollRow.{RollRow}
use Rattle.ranking.specs.Rankings.{placed}

placed_length_if : (b : Bool) (y x : RollRow) (rest items : List RollRow) → length rest ≡ length items + 1 → length (cond b (y ∷ rest) (x ∷ y ∷ items)) ≡ length (y ∷ items) + 1
placed_length_if true y x rest items e = omega arith
placed_length_if false y x rest items e = omega arith

placed_length : (ahead : RollRow → RollRow → Bool) (x : RollRow) (items : List RollRow) → length (placed ahead x items) ≡ length items + 1
placed_length ahead x [] = refl
placed_length ahead x (y ∷ items) = placed_length_if (ahead y x) y x (placed ahead x items) items (placed_length ahead x items)

folded_length : (ahead : RollRow → RollRow → Bool) (ranked items : List RollRow) → length (fold (λ r x. placed ahead x r) ranked items) ≡ length ranked + length items
folded_length ahead ranked [] = omega arith
folded_length ahead ranked (x ∷ items) =
    let more = folded_length ahead (placed ahead x ranked) items in
    let one = placed_length ahead x ranked in
    omega arith

listed_length : (o : Option RollRow) → length (option_to_list o) ≤ 1
listed_length None = omega arith
listed_length (Some x) = omega arith

rows_length : (s : State) (settled : Settlement) (n : ℕ) (us : List Row) → length (rows_of s settled n us) ≤ length us
rows_length s settled n [] = omega arith
rows_length s settled n (u ∷ us) =
    let more = rows_length s settled (n + 1) us in
    let one = listed_length (row_of s settled n) in
    let both = length-append (option_to_list (row_of s settled n)) (rows_of s settled (n + 1) us) in
    omega arith

pub roll_short : (s : State) (settled : Settlement) → length (roll_of s settled) ≤ length s.book.units
roll_short s settled =
    let all = folded_length roll_ahead [] (rows_of s settled 0 s.book.units) in
    let few = rows_length s settled 0 s.book.units in
    omega arith

pub lawful_units_few : (b : Books) → lawful b ≡ true → length b.units ≤ 512
unfolding lawful
lawful_units_few b h = leb-true (length b.units) 512 (and_parts (leb (length b.units) 512) _ h).0

-- what Roll answers to its own clock, where the rows are enough
pub roll_own : (s : State) (c : Stamp) (rows : List RollRow) → current s Settled c ≡ true → length (roll_of s (settlement_of s)) ≤ length rows → roll_read s c rows ≡ (Ok (length (roll_of s (settlement_of s))), roll_of s (settlement_of s) ++ drop (length (roll_of s (settlement_of s))) rows)
roll_own s c rows own few =
    let enough : leb (length (roll_of s (settlement_of s))) (length rows) ≡ true = le-leb (length (roll_of s (settlement_of s))) (length rows) few in
    let all : Result ℕ ℕ × List RollRow = (Ok (length (roll_of s (settlement_of s))), roll_of s (settlement_of s) ++ drop (length (roll_of s (settlement_of s))) rows) in
    ap (λ (b : Bool). elim (cond {A = Option ℕ} b (cond {A = Option ℕ} (leb (length (roll_of s (settlement_of s))) (length rows)) None (Some 22)) (Some 9)) as (λ o. Result ℕ ℕ × List RollRow) [ None ↦ all | Some n ↦ (Err n, rows) ]) own
    ∙ ap (λ (b : Bool). elim (cond {A = Option ℕ} b None (Some 22)) as (λ o. Result ℕ ℕ × List RollRow) [ None ↦ all | Some n ↦ (Err n, rows) ]) enough

-- so Roll with its own clock is accepted
pub roll_accepted : (r : Result ℕ Refusal) (s : State) (c : Stamp) (rows after : List RollRow) → current s Settled c ≡ true → ◌≡◌ {A = Result ℕ ℕ × List RollRow} (numbered r, after) (roll_read s c rows) → length s.book.units ≤ length rows → IsOk r
roll_accepted (Ok n) s c rows after own e few = refl
roll_accepted (Err why) s c rows after own e few =
    let roll : List RollRow = roll_of s (settlement_of s) in
    let short = roll_short s (settlement_of s) in
    let all = e ∙ roll_own s c rows own (omega arith) in
    let counted : Err (auction_question why) ≡ Ok (length roll) = ap (λ p. p.0) all in
    let z : ◌≡◌ {A = ℕ} 0 1 = cc counted in
    absurd (omega arith)

pub front_is : {A : Type 0} (xs ys : List A) → take (length xs) (xs ++ ys) ≡ xs
front_is xs ys = take-append-le (length xs) xs ys (omega arith) ∙ take_all (length xs) xs (omega arith)

-- what an answer of Roll to its own clock comes to
pub roll_counted : (s : State) (c : Stamp) (rows after : List RollRow) (n : ℕ) → current s Settled c ≡ true → ◌≡◌ {A = Result ℕ ℕ × List RollRow} (Ok n, after) (roll_read s c rows) → length s.book.units ≤ length rows → (n ≤ length after) × (take n after ≡ roll_of s (settlement_of s))
roll_counted s c rows after n own e few =
    let roll : List RollRow = roll_of s (settlement_of s) in
    let short = roll_short s (settlement_of s) in
    let all = e ∙ roll_own s c rows own (omega arith) in
    let counted : Ok n ≡ Ok (length roll) = ap (λ p. p.0) all in
    let is : n ≡ length roll = cc counted in
    let written : after ≡ roll ++ drop (length roll) rows = ap (λ p. p.1) all in
    let long = length-append roll (drop (length roll) rows) in
    let after-long : length after ≡ length (roll ++ drop (length roll) rows) = ap length written in
    (omega arith, ap (λ k. take k after) is ∙ ap (λ l. take (length roll) l) written ∙ front_is roll (drop (length roll) rows))

pub roll_unrefused : (s : State) (c : Stamp) (rows after : List RollRow) (n : ℕ) → current s Settled c ≡ true → ◌≡◌ {A = Result ℕ ℕ × List RollRow} (Err n, after) (roll_read s c rows) → length s.book.units ≤ length rows → ⊥
roll_unrefused s c rows after n own e few =
    let roll : List RollRow = roll_of s (settlement_of s) in
    let short = roll_short s (settlement_of s) in
    let all = e ∙ roll_own s c rows own (omega arith) in
    let counted : Err n ≡ Ok (length roll) = ap (λ p. p.0) all in
    let z : ◌≡◌ {A = ℕ} 0 1 = cc counted in
    omega arith
