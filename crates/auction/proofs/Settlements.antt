-- The settlement of an auction that settled, and what it awards.
use Rattle.std.proofs.Common.{◌≡◌, ℕ, zero, suc, ◌+◌, ◌<◌, ◌≤◌, Bool, true, false, eqb, List, [], ◌∷◌, ◌++◌, map, length, get_or, take, drop, Some, None, Option, sym, refl, ap, ◌∙◌, subst, ⊎_elim, arith}
use Rattle.std.specs.List.{AllByRecursion}
use Rattle.std.proofs.ByRecursion.{All-get_or, All-weaker, All-append, All-take, All-drop, All-map, all_shuffled}
use Rattle.std.proofs.lemmas.List.{take-append-drop, get_or_past}
use Rattle.std.proofs.lemmas.List.Sorted.{IsPermutation-sym}
use Rattle.std.proofs.lemmas.Bool.{both_ways, false≢true, true≢false, or_cases, or_parts, or_left, or_right, eq-eqb, eqb-true, eqb-false, cases_lt, cond-true, cond-false}
use Rattle.std.proofs.lemmas.Bool.Decides.{nat_tests}
use Rattle.auction.specs.declared.clocks.Stage.TheVariants.{Settled}
use Rattle.auction.specs.Awards.{among, awarded_exits, is_awarded, award_of}
use Rattle.auction.specs.History.{is_none}
use Rattle.auction.specs.Promise.{SettlementOf}
use Rattle.auction.specs.State.{State, floor_of, in_of, priced, ranked_exits}
use Rattle.auction.proofs.RoundExits.{exit_holds, exits_true}
use Rattle.auction.proofs.Soundness.{Sound, clearable, ranked_so}
use Rattle.book.specs.declared.unit.Unit.{Unit as Row}
use Rattle.book.specs.Books.{no_unit, years_at, leaving, exits_up_to}
use Rattle.clearing.proofs.BuyersBest.{best}
use Rattle.clearing.proofs.Outcomes.{outcome_holds}
use Rattle.clearing.proofs.StoppingPlaces.{stops_near, awards_below}
use Rattle.clearing.specs.declared.settlement.Settlement.{Settlement}
use Rattle.clearing.specs.Finding.{outcome_of}
use Rattle.clearing.specs.Grounds.{Settles, Outcome}
use Rattle.clearing.specs.Places.{price_at}
use Rattle.book.proofs.ExitLaws.{exits_priced}
use Rattle.clearing.specs.Premise.{Clearable}
use Rattle.clearing.specs.Sound.{AwardsBelow}
use Rattle.curve.proofs.DemandWords.{words}
use Rattle.curve.specs.Meaning.{Laws}
use Rattle.curve.specs.Words.{within}
use Rattle.ranking.specs.Ahead.{price_ahead}
use Rattle.ranking.specs.declared.exits.Exit.{Exit}
use Rattle.ranking.specs.Laws.{Laws as OrderLaws}
use Rattle.ranking.specs.Rankings.{InOrder, RanksExits}

all_both : {X : Type 0} (P Q : X → Type 0) (xs : List X) → AllByRecursion P xs → AllByRecursion Q xs → AllByRecursion (λ x. P x × Q x) xs
all_both P Q [] p q = tt
all_both P Q (x ∷ xs) p q = ((p.0, q.0), all_both P Q xs p.1 q.1)

among_holds : (i : ℕ) (P : Exit → Type 0) (es : List Exit) → AllByRecursion P es → among i es ≡ true → (e : Exit) × (i ≡ e.unit) × P e
among_holds i P [] all h = absurd (false≢true h)
among_holds i P (e ∷ es) all h =
    ⊎_elim (λ is. (e, eqb-true i e.unit is, all.0)) (λ later. among_holds i P es all.1 later) (or_cases (eqb i e.unit) (among i es) h)

among_none : (i : ℕ) (es : List Exit) → among i es ≡ false → AllByRecursion (λ e. e.unit ≡ i → ⊥) es
among_none i [] h = tt
among_none i (e ∷ es) h =
    let parts = or_parts (eqb i e.unit) (among i es) h in
    ((λ same. eqb-false i e.unit parts.0 (sym same)), among_none i es parts.1)

among_each : (es : List Exit) → AllByRecursion (λ e. among e.unit es ≡ true) es
among_each [] = tt
among_each (x ∷ es) = (
  or_left _ _ (eq-eqb x.unit x.unit refl),
  All-weaker (λ e. among e.unit es ≡ true) _ (λ e there. or_right (eqb e.unit x.unit) (among e.unit es) there) es (among_each es),
)

-- of exits in order, each of the first k is ahead of each behind them
order_split : (ahead : Exit → Exit → Bool) (k : ℕ) (xs : List Exit) → InOrder ahead xs → AllByRecursion (λ x. AllByRecursion (λ e. ahead e x ≡ true) (take k xs)) (drop k xs)
order_split ahead zero [] ordered = tt
order_split ahead zero (y ∷ ys) ordered = (tt, order_split ahead zero ys ordered.1)
order_split ahead (suc k) [] ordered = tt
order_split ahead (suc k) (y ∷ ys) ordered =
    all_both (λ x. ahead y x ≡ true) (λ x. AllByRecursion (λ e. ahead e x ≡ true) (take k ys)) (drop k ys)
    (All-drop (λ x. ahead y x ≡ true) k ys ordered.0) (order_split ahead k ys ordered.1)

price_most : (top floor : ℕ) (exits : List Exit) (i : ℕ) → floor ≤ top → AllByRecursion (λ e. e.price ≤ top) exits → price_at floor exits i ≤ top
price_most top floor exits i low all =
    let prices : List ℕ = floor ∷ map (λ e. e.price) exits in
    ⊎_elim
    (λ (lt : i < length prices). All-get_or (λ p. p ≤ top) prices i 0 lt (low, All-map (λ p. p ≤ top) (λ e. e.price) exits all))
    (λ (ge : length prices ≤ i). let e : get_or prices i 0 ≡ 0 = get_or_past prices i 0 ge in omega arith)
    (cases_lt i (length prices))

some_is : (o : Option ℕ) → is_none o ≡ false → (price : ℕ) × (o ≡ Some price)
some_is None h = absurd (true≢false h)
some_is (Some price) h = (price, refl)

-- a lower price is ahead
lower_ahead : (ahead : Exit → Exit → Bool) (e x : Exit) → e.price < x.price → price_ahead ahead e x ≡ true
lower_ahead ahead e x lt = grind (arith, nat_tests)

module _ (s : State) (sound : Sound s) (order : OrderLaws (λ e. e.unit) s.ahead) (laws : Laws s.curve) where
  abbrev us : List Row
  us = s.book.units

  abbrev ranked : List Exit
  ranked = ranked_exits s

  ok : Clearable (floor_of s) (in_of s) ranked
  ok = clearable s sound order

  -- if the capacity in is within the demand at the floor there is a settlement
  priced_settles : within s.curve (floor_of s) (in_of s) ≡ true → (r : Option Settlement) → Outcome s.curve (floor_of s) (in_of s) ranked r → (c : Settlement) × (r ≡ Some c) × Settles s.curve (floor_of s) (in_of s) ranked c
  priced_settles yes-within None h = absurd (both_ways _ h yes-within)
  priced_settles yes-within (Some c) h = (c, refl, h.1)

  pub priced_holds : Outcome s.curve (floor_of s) (in_of s) ranked (priced s)
  unfolding outcome_of
  priced_holds = outcome_holds s.curve (words s.curve laws) (floor_of s) (in_of s) ranked ok

  ranked_most : AllByRecursion (λ e. e.price ≤ s.top) ranked
  ranked_most = all_shuffled _ _ ranked (ranked_so s order).same_items (exits_priced s.top 0 us)

  -- an exit in the ranking has the capacity and the years of its unit
  abbrev Whole : Exit → Type 0
  Whole e = ◌≡◌ {A = ℕ × ℕ} ((get_or us e.unit no_unit).enrolled.capacity, (get_or us e.unit no_unit).standing.years) (e.capacity, e.years)

  ranked_whole : AllByRecursion Whole ranked
  ranked_whole =
      all_shuffled Whole _ ranked (ranked_so s order).same_items
      (exits_true s.top 0 us Whole
      (λ i price lt e le. let k : 0 + i ≡ i = omega arith in let of : ℕ → ℕ × ℕ = λ j. ((get_or us j no_unit).enrolled.capacity, (get_or us j no_unit).standing.years) in ap of k))

  -- an exit in the ranking is at the price at which its unit left
  ranked_true : AllByRecursion (λ e. (get_or us e.unit no_unit).standing.exit ≡ Some e.price) ranked
  ranked_true =
      all_shuffled (λ e. (get_or us e.unit no_unit).standing.exit ≡ Some e.price) _ ranked (ranked_so s order).same_items
      (exits_true s.top 0 us (λ e. (get_or us e.unit no_unit).standing.exit ≡ Some e.price)
      (λ i price lt e le. let k : i ≡ 0 + i = omega arith in subst (λ (j : ℕ). (get_or us j no_unit).standing.exit ≡ Some price) k e))

  module _ (c : Settlement) (settles : Settles s.curve (floor_of s) (in_of s) ranked c) where
    below : AwardsBelow ranked c
    below = awards_below (floor_of s) (in_of s) ranked ok c (stops_near s.curve (words s.curve laws) (floor_of s) (in_of s) ranked ok c settles).0 settles.price_is

    -- what is awarded is something
    pub award_some : (i : ℕ) → i < length us → is_awarded s c i ≡ true → 1000 ≤ (award_of s c i).0
    award_some i lt awarded =
        let u : Row = get_or us i no_unit in
        let is : award_of s c i ≡ (u.enrolled.capacity, years_at c.price u) = cond-true (is_awarded s c i) _ _ awarded in
        let size : (award_of s c i).0 ≡ u.enrolled.capacity = ap (λ (a : ℕ × ℕ). a.0) is in
        let large : 1000 ≤ u.enrolled.capacity = All-get_or (λ v. 1000 ≤ v.enrolled.capacity) us i no_unit lt sound.large in
        omega arith

    pub award_none : (i : ℕ) → is_awarded s c i ≡ false → award_of s c i ≡ (0, 0)
    award_none i unawarded = cond-false (is_awarded s c i) _ _ unawarded

    award_whole : (i : ℕ) → is_awarded s c i ≡ true → award_of s c i ≡ ((get_or us i no_unit).enrolled.capacity, (get_or us i no_unit).standing.years)
    award_whole i awarded = cond-true (is_awarded s c i) _ _ awarded

    exits_whole : AllByRecursion (λ e. award_of s c e.unit ≡ (e.capacity, e.years)) (awarded_exits s c)
    exits_whole =
        All-weaker (λ e. (among e.unit (awarded_exits s c) ≡ true) × Whole e) (λ e. award_of s c e.unit ≡ (e.capacity, e.years))
        (λ e h. award_whole e.unit (or_right (get_or us e.unit no_unit).standing.inside _ h.0) ∙ h.1)
        (awarded_exits s c)
        (all_both (λ e. among e.unit (awarded_exits s c) ≡ true) Whole (awarded_exits s c) (among_each (awarded_exits s c)) (All-take _ c.stop ranked ranked_whole))

    price_in_round : c.price ≤ s.top
    price_in_round =
        let at : price_at (floor_of s) ranked c.stop ≤ s.top = price_most s.top (floor_of s) ranked c.stop (omega arith) ranked_most in
        let is = settles.price_is in
        omega arith

    in_or_out_at : (i : ℕ) → i < length us → (get_or us i no_unit).standing.inside ≡ is_none (get_or us i no_unit).standing.exit
    in_or_out_at i lt = All-get_or (λ u. u.standing.inside ≡ is_none u.standing.exit) us i no_unit lt sound.in_or_out

    pub awarded_left_below : (i price : ℕ) → i < length us → is_awarded s c i ≡ true → (get_or us i no_unit).standing.exit ≡ Some price → price ≤ c.price
    awarded_left_below i price lt awarded left =
        let outside : (get_or us i no_unit).standing.inside ≡ false = in_or_out_at i lt ∙ ap is_none left in
        let there : among i (awarded_exits s c) ≡ true = ⊎_elim (λ inside. absurd (both_ways _ outside inside)) (λ h. h) (or_cases _ _ awarded) in
        let found = among_holds i (λ e. (e.price ≤ c.price) × ((get_or us e.unit no_unit).standing.exit ≡ Some e.price)) (awarded_exits s c) (all_both (λ e. e.price ≤ c.price) (λ e. (get_or us e.unit no_unit).standing.exit ≡ Some e.price) (awarded_exits s c) below.0 (All-take _ c.stop ranked ranked_true)) there in
        let e : Exit = found.0 in
        let same : (get_or us i no_unit).standing.exit ≡ Some e.price = ap (λ (j : ℕ). (get_or us j no_unit).standing.exit) found.1 ∙ found.2.1 in
        let price_is : price ≡ e.price = cc in
        let most : e.price ≤ c.price = found.2.0 in
        omega arith

    -- what is shown of a unit without an award: it left at or above the price, and behind every awarded exit
    abbrev Behind : Exit → Type 0
    Behind x = (c.price ≤ x.price) × AllByRecursion (λ e. price_ahead s.ahead e x ≡ true) (awarded_exits s c)

    ranked_behind : (i : ℕ) → among i (awarded_exits s c) ≡ false → AllByRecursion (λ x. x.unit ≡ i → Behind x) ranked
    ranked_behind i none =
        let split : take c.stop ranked ++ drop c.stop ranked ≡ ranked = take-append-drop c.stop ranked in
        subst (AllByRecursion (λ x. x.unit ≡ i → Behind x)) split
        (All-append (λ x. x.unit ≡ i → Behind x) (take c.stop ranked) (drop c.stop ranked)
        (All-weaker (λ x. x.unit ≡ i → ⊥) (λ x. x.unit ≡ i → Behind x) (λ x no-unit-i same. absurd (no-unit-i same)) (take c.stop ranked) (among_none i (awarded_exits s c) none))
        (All-weaker Behind (λ x. x.unit ≡ i → Behind x) (λ x b same. b) (drop c.stop ranked)
        (all_both (λ x. c.price ≤ x.price) (λ x. AllByRecursion (λ e. price_ahead s.ahead e x ≡ true) (awarded_exits s c)) (drop c.stop ranked) below.1 (order_split (price_ahead s.ahead) c.stop ranked (ranked_so s order).in_order))))

    left_behind : (i price : ℕ) → i < length us → is_awarded s c i ≡ false → (get_or us i no_unit).standing.exit ≡ Some price → Behind (leaving i (get_or us i no_unit) price)
    left_behind i price lt unawarded left =
        let none : among i (awarded_exits s c) ≡ false = (or_parts (get_or us i no_unit).standing.inside (among i (awarded_exits s c)) unawarded).1 in
        ⊎_elim
        (λ (high : s.top < price).
        let most = price_in_round in (
          omega arith,
          All-weaker (λ e. e.price ≤ s.top) (λ e. price_ahead s.ahead e (leaving i (get_or us i no_unit) price) ≡ true)
              (λ e le. let lower : e.price < price = omega arith in lower_ahead s.ahead e (leaving i (get_or us i no_unit) price) lower)
              (awarded_exits s c) (All-take _ c.stop ranked ranked_most),
        ))
        (λ (low : price ≤ s.top).
        let k : 0 + i ≡ i = omega arith in
        let items : List Exit = exits_up_to s.top 0 us in
        let all : AllByRecursion (λ x. x.unit ≡ i → Behind x) items = all_shuffled (λ x. x.unit ≡ i → Behind x) ranked items (IsPermutation-sym items ranked (ranked_so s order).same_items) (ranked_behind i none) in
        let held : (leaving (0 + i) (get_or us i no_unit) price).unit ≡ i → Behind (leaving (0 + i) (get_or us i no_unit) price) = exit_holds s.top 0 us (λ x. x.unit ≡ i → Behind x) all i price lt left low in
        subst (λ (j : ℕ). Behind (leaving j (get_or us i no_unit) price)) k (held k))
        (cases_lt s.top price)

    others_left_above : (i : ℕ) → i < length us → is_awarded s c i ≡ false → (price : ℕ) × ((get_or us i no_unit).standing.exit ≡ Some price) × (c.price ≤ price)
    others_left_above i lt unawarded =
        let outside : is_none (get_or us i no_unit).standing.exit ≡ false = sym (in_or_out_at i lt) ∙ (or_parts (get_or us i no_unit).standing.inside (among i (awarded_exits s c)) unawarded).0 in
        let left = some_is (get_or us i no_unit).standing.exit outside in
        (left.0, left.1, (left_behind i left.0 lt unawarded left.1).0)

    settlement_with : (exits : List Exit) → s.stage ≡ Settled → RanksExits s.ahead exits ranked → priced s ≡ Some c → SettlementOf s.curve s.ahead (floor_of s) (in_of s) exits s
    settlement_with exits settled ranking is =
        record {
          settlement = c;
          is_settled = settled;
          is_priced = is;
          is_ranking = ranking;
          settles = settles;
          in_awarded = λ i lt stays. award_whole i (or_left _ _ (in_or_out_at i lt ∙ ap is_none stays));
          exits_awarded = exits_whole;
          others_nothing = award_none;
          awarded_below = awarded_left_below;
          others_left = others_left_above;
          others_behind = λ i price lt unawarded left. (left_behind i price lt unawarded left).1;
          best = best s.curve laws (words s.curve laws) (floor_of s) (in_of s) ranked ok c settles;
        }

  pub priced_some : within s.curve (floor_of s) (in_of s) ≡ true → (c : Settlement) × (priced s ≡ Some c) × Settles s.curve (floor_of s) (in_of s) ranked c
  priced_some yes-within = priced_settles yes-within (priced s) priced_holds

  pub settlement_of : (exits : List Exit) → s.stage ≡ Settled → RanksExits s.ahead exits ranked → within s.curve (floor_of s) (in_of s) ≡ true → SettlementOf s.curve s.ahead (floor_of s) (in_of s) exits s
  settlement_of exits settled ranking yes-within =
      let found = priced_some yes-within in
      settlement_with found.0 found.2 exits settled ranking found.1
