-- What holds of every auction that was opened, whatever was called since; from it the round that is open can be cleared.
use Rattle.std.proofs.Common.{◌≡◌, ℕ, ◌+◌, ◌<◌, ◌≤◌, Bool, true, cond, eqb, List, [], ◌∷◌, ◌++◌, map, length, get_or, set, Some, None, Option, sym, refl, ap, ◌∙◌, subst, arith}
use Rattle.std.specs.List.{AllByRecursion}
use Rattle.std.specs.List.Sorted.{IsPermutation}
use Rattle.std.proofs.ByRecursion.{All-from_get_or, All-weaker}
use Rattle.std.proofs.lemmas.List.{map_push, get_or-set_same, get_or-set_other}
use Rattle.std.proofs.lemmas.List.Sorted.{IsPermutation-refl, IsPermutation-trans, IsPermutation-cons, IsPermutation-to_front, length_permutation}
use Rattle.std.proofs.lemmas.Bool.{cond_both, false≢true}
use Rattle.auction.specs.declared.calls.Turn.{Turn}
use Rattle.auction.specs.History.{last_for, is_none}
use Rattle.auction.specs.State.{State, floor_of, in_of, ranked_exits}
use Rattle.auction.specs.Steps.{opened}
use Rattle.auction.proofs.Agreement.{Agrees, agrees_more, agrees_first, in_unpriced, begun_at, OutIn}
use Rattle.auction.proofs.Ledgers.{Ledger, noted, ledger, along}
use Rattle.auction.proofs.Moves.{Move, refusing, enrolling, beginning, exiting, serving, backing, shutting, settling, going_on, after, heard}
use Rattle.auction.proofs.RoundExits.{Above, AboveAt, exits_distinct, exits_least, exits_large, exits_room, exits_push, exits_same, exits_none, exits_more}
use Rattle.auction.proofs.Rows.{new_unit_is}
use Rattle.auction.proofs.Trails.{keeps, replayed, Replays}
use Rattle.book.specs.declared.unit.Unit.{Unit as Row}
use Rattle.book.proofs.ExitLaws.{exits_few, exits_priced}
use Rattle.book.specs.Books.{no_unit, new_unit, stood, out_at, for_years, leaving, total_enrolled, exits_up_to}
use Rattle.clearing.proofs.Premises.{clearable_ranked}
use Rattle.clearing.specs.Premise.{Clearable, top_price}
use Rattle.curve.specs.Meaning.{Meaning, ceiling}
use Rattle.ranking.specs.Compares.{price_laws}
use Rattle.ranking.proofs.Prices.{prices_rise}
use Rattle.ranking.proofs.Ranks.{ranking_stands}
use Rattle.ranking.specs.Ahead.{price_ahead}
use Rattle.ranking.specs.declared.exits.Exit.{Exit}
use Rattle.ranking.specs.Laws.{Laws as OrderLaws}
use Rattle.ranking.specs.Rankings.{RanksExits}

pub record Sound (s : State) : Type 0 where
  -- no price is above the largest
  pub top_most : s.top ≤ top_price
  pub large : AllByRecursion (λ u. 1000 ≤ u.enrolled.capacity) s.book.units
  pub most : total_enrolled s.book.units ≤ ceiling
  -- a unit is in exactly if it has no exit price
  pub in_or_out : AllByRecursion (λ u. u.standing.inside ≡ is_none u.standing.exit) s.book.units
  -- every unit that left did so above the floor
  pub above_floor : AllByRecursion (Above (floor_of s)) s.book.units

last_above : (floor i : ℕ) (found : Option ℕ) (es : List (ℕ × ℕ)) → AboveAt floor found → AllByRecursion (λ e. floor < e.1) es → AboveAt floor (last_for i found es)
last_above floor i found [] h all = h
last_above floor i found (e ∷ es) h all =
    last_above floor i (cond (eqb i e.0) (Some e.1) found) es (cond_both (eqb i e.0) (Some e.1) found (AboveAt floor) (λ x. all.0) (λ x. h)) all.1

all_above : (start s : State) (l : Ledger) → Agrees start s l → AllByRecursion (Above (floor_of s)) s.book.units
all_above start s l g =
    All-from_get_or (Above (floor_of s)) s.book.units no_unit
    (λ i lt. subst (Above (floor_of s)) (sym (g.each_unit i lt)) (last_above (floor_of s) i None l.gone tt g.above_floor))

pub sound_if_agrees : (start s : State) (l : Ledger) → start.top ≤ top_price → Agrees start s l → Sound s
sound_if_agrees start s l most g =
    let top_most = g.top_most in
    record {
      top_most = omega arith;
      large = g.large;
      most = g.most;
      in_or_out = All-from_get_or (λ u. u.standing.inside ≡ is_none u.standing.exit) s.book.units no_unit (λ i lt. subst (λ (u : Row). u.standing.inside ≡ is_none u.standing.exit) (sym (g.each_unit i lt)) refl);
      above_floor = all_above start s l g;
    }

-- the ranked exits of the round are a ranking of its exits

pub ranked_so : (s : State) → OrderLaws (λ e. e.unit) s.ahead → RanksExits s.ahead (exits_up_to s.top 0 s.book.units) (ranked_exits s)
ranked_so s laws =
    ranking_stands (λ e. e.unit) (price_ahead s.ahead) (price_laws s.ahead laws) (exits_up_to s.top 0 s.book.units) (exits_distinct s.top 0 s.book.units)

pub ranked_few : (s : State) → OrderLaws (λ e. e.unit) s.ahead → length (ranked_exits s) ≤ length s.book.units
ranked_few s order =
    let items : List Exit = exits_up_to s.top 0 s.book.units in
    let same = length_permutation items (ranked_exits s) (ranked_so s order).same_items in
    let few = exits_few s.top 0 s.book.units in
    omega arith

pub in_most : (s : State) → Sound s → in_of s ≤ ceiling
in_most s sound =
    let room = exits_room s.top 0 s.book.units in
    let most = sound.most in
    omega arith

pub clearable : (s : State) → Sound s → OrderLaws (λ e. e.unit) s.ahead → Clearable (floor_of s) (in_of s) (ranked_exits s)
clearable s sound laws =
    let us : List Row = s.book.units in
    let items : List Exit = exits_up_to s.top 0 us in
    let r = ranked_so s laws in
    let top_most = sound.top_most in
    let room = exits_room s.top 0 us in
    let most = sound.most in
    clearable_ranked (floor_of s) (in_of s) items (ranked_exits s) r.same_items (prices_rise s.ahead (ranked_exits s) r.in_order)
    (omega arith)
    (All-weaker (λ e. e.price ≤ s.top) (λ e. e.price ≤ top_price) (λ e le. omega arith) items (exits_priced s.top 0 us))
    (exits_least (floor_of s) s.top 0 us sound.above_floor)
    (exits_large s.top 0 us sound.large)
    (omega arith)

-- the exits of the round that are at most its cap are those entered in it

abbrev pub exit_now : List Row → ℕ × ℕ → Exit
exit_now us e = leaving e.0 (get_or us e.0 no_unit) e.1

all_behind : {X : Type 0} (P : X → Type 0) (xs ys : List X) → AllByRecursion P (xs ++ ys) → AllByRecursion P ys
all_behind P [] ys all = all
all_behind P (x ∷ xs) ys all = all_behind P xs ys all.1

none_behind : {X : Type 0} (xs ys : List X) → xs ++ ys ≡ [] → ys ≡ []
none_behind [] ys e = e
none_behind (x ∷ xs) ys e = let z : ◌≡◌ {A = ℕ} 0 1 = cc in absurd (omega arith)

-- the exits that stand are not of a unit that is in
exits_now_same : (us : List Row) (i : ℕ) (u : Row) → (get_or us i no_unit).standing.exit ≡ None → (es : List (ℕ × ℕ)) → AllByRecursion (OutIn us) es → map (exit_now (set us i u)) es ≡ map (exit_now us) es
exits_now_same us i u stays [] all = refl
exits_now_same us i u stays (e ∷ es) all =
    let gone = all.0.1 in
    let ne : e.0 ≡ i → ⊥ = λ q. let same = ap (λ (n : ℕ). (get_or us n no_unit).standing.exit) q in let z : ◌≡◌ {A = ℕ} 0 1 = cc in omega arith in
    ap (λ (v : Row). leaving e.0 v e.1 ∷ map (exit_now (set us i u)) es) (get_or-set_other us i e.0 u no_unit ne)
    ∙ ap (λ (xs : List Exit). exit_now us e ∷ xs) (exits_now_same us i u stays es all.1)

abbrev pub InRound : State → Ledger → Type 0
InRound s l = IsPermutation (map (exit_now s.book.units) l.round) (exits_up_to s.top 0 s.book.units)

module _ (start s : State) (l : Ledger) (g : Agrees start s l) (r : InRound s l) where
  abbrev us : List Row
  us = s.book.units

  pub round_out : AllByRecursion (OutIn us) l.round
  round_out = all_behind (OutIn us) l.earlier l.round (subst (AllByRecursion (OutIn us)) g.rounds g.out)

  no_round : l.gone ≡ [] → l.round ≡ []
  no_round e = none_behind l.earlier l.round (sym g.rounds ∙ e)

  unpriced : (i : ℕ) → i < length us → (get_or us i no_unit).standing.inside ≡ true → (get_or us i no_unit).standing.exit ≡ None
  unpriced i here inside = in_unpriced us l.gone l.years l.enrolled g.each_unit i here inside

  round_more : (move : Move s) → keeps (heard s move) ≡ true → InRound (after s move) (noted l (heard s move))
  round_more refusing kept = absurd (false≢true kept)
  round_more (enrolling a h) kept =
      let none : l.round ≡ [] = no_round (begun_at s l g.begun h.stage_is).0 in
      let same : map (exit_now us) l.round ≡ map (exit_now (us ++ new_unit a ∷ [])) l.round = ap (map (exit_now us)) none ∙ sym (ap (map (exit_now (us ++ new_unit a ∷ []))) none) in
      let exits-now : exits_up_to s.top 0 us ≡ exits_up_to s.top 0 (us ++ new_unit a ∷ []) = sym (exits_push s.top 0 us (new_unit a) (ap (λ (u : Row). u.standing.exit) (new_unit_is a))) in
      subst (λ (xs : List Exit). IsPermutation xs (exits_up_to s.top 0 (us ++ new_unit a ∷ []))) same
      (subst (IsPermutation (map (exit_now us) l.round)) exits-now r)
  round_more (beginning h) kept =
      let none : l.round ≡ [] = no_round (begun_at s l g.begun h).0 in
      subst (λ (es : List (ℕ × ℕ)). IsPermutation (map (exit_now us) es) (exits_up_to s.top 0 us)) none r
  round_more (exiting i price h) kept =
      let u : Row = stood (get_or us i no_unit) (out_at (get_or us i no_unit).standing price) in
      let was : (get_or us i no_unit).standing.exit ≡ None = unpriced i h.here h.inside in
      let now : get_or (set us i u) i no_unit ≡ u = get_or-set_same us i u no_unit h.here in
      let said : map (exit_now (set us i u)) (l.round ++ (i, price) ∷ []) ≡ map (exit_now us) l.round ++ leaving i u price ∷ [] = map_push (exit_now (set us i u)) l.round (i, price) ∙ ap (λ (xs : List Exit). xs ++ exit_now (set us i u) (i, price) ∷ []) (exits_now_same us i u was l.round round_out) ∙ ap (λ (v : Row). map (exit_now us) l.round ++ leaving i v price ∷ []) now in
      let zero-i : 0 + i ≡ i = omega arith in
      let more : IsPermutation (leaving i u price ∷ exits_up_to s.top 0 us) (exits_up_to s.top 0 (set us i u)) = subst (λ (j : ℕ). IsPermutation (leaving j u price ∷ exits_up_to s.top 0 us) (exits_up_to s.top 0 (set us i u))) zero-i (exits_more s.top 0 us i u price h.here was refl h.most) in
      subst (λ (xs : List Exit). IsPermutation xs (exits_up_to s.top 0 (set us i u))) (sym said)
      (IsPermutation-trans _ _ _ (IsPermutation-to_front (map (exit_now us) l.round) (leaving i u price)) (IsPermutation-trans _ _ _ (IsPermutation-cons (leaving i u price) _ _ r) more))
  round_more (serving i years h) kept =
      let u : Row = stood (get_or us i no_unit) (for_years (get_or us i no_unit).standing years) in
      let was : (get_or us i no_unit).standing.exit ≡ None = unpriced i h.here h.inside in
      subst (λ (xs : List Exit). IsPermutation xs (exits_up_to s.top 0 (set us i u))) (sym (exits_now_same us i u was l.round round_out))
      (subst (IsPermutation (map (exit_now us) l.round)) (sym (exits_same s.top 0 us i u was was)) r)
  round_more (backing h) kept = absurd (false≢true kept)
  round_more (shutting h) kept = r
  round_more (settling h) kept = r
  round_more (going_on h) kept =
      subst (IsPermutation []) (sym (exits_none (floor_of s) 0 us (all_above start s l g))) (IsPermutation-refl [])

pub in_round : (number top spread threshold : ℕ) (m : Meaning) (ahead : Exit → Exit → Bool) (kept : List Turn) → Replays (opened number top spread threshold m ahead) kept → InRound (replayed (opened number top spread threshold m ahead) kept) (ledger kept)
in_round number top spread threshold m ahead kept r =
    let start : State = opened number top spread threshold m ahead in
    let both : State → Ledger → Type 0 = λ s l. Agrees start s l × InRound s l in
    (along start both (agrees_first number top spread threshold m ahead, IsPermutation-refl [])
    (λ s l move k p. (agrees_more start s l move k p.0, round_more start s l p.0 p.1 move k)) kept r).1
