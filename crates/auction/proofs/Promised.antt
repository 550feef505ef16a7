-- Clearing, and with it all that is promised of every list of calls.
use Rattle.std.proofs.Common.{◌≡◌, ℕ, ◌≤◌, Bool, true, ◌&&◌, ltb, leb, List, [], ◌∷◌, map, reverse, Some, None, Option, sym, refl, ap, ◌∙◌, subst, arith}
use Rattle.std.specs.List.{AllByRecursion}
use Rattle.std.specs.List.Sorted.{IsPermutation}
use Rattle.std.proofs.lemmas.List.Sorted.{IsPermutation-trans}
use Rattle.std.proofs.lemmas.Bool.{and_parts, leb-true}
use Rattle.auction.specs.declared.calls.Call.{Call}
use Rattle.auction.specs.declared.calls.Figures.{Figures}
use Rattle.auction.specs.declared.calls.Turn.{Turn}
use Rattle.auction.specs.declared.clocks.Stage.TheVariants.{Settled}
use Rattle.auction.specs.History.{played, ended, struck, kept_latest_first, enrolments, all_exits, all_years, application_of, said_unit, as_leaving, round_exits}
use Rattle.auction.specs.Promise.{closing_floor, Clearing, SettlementOf, Promise, LawsOverCalls}
use Rattle.auction.specs.Reading.{SettledPriced}
use Rattle.auction.specs.State.{State, floor_of, in_of, ranked_exits}
use Rattle.auction.specs.Steps.{opened, open_questions, moved_to}
use Rattle.auction.proofs.Agreement.{Agrees, OutIn}
use Rattle.auction.proofs.Closings.{CloseOf, close_of, in_then, floor_then, decided_then, refused_then, ends_so, capacity_inside, settled_by_close}
use Rattle.auction.proofs.Ledgers.{ledger, enrolled_said, gone_said, years_said, round_said}
use Rattle.auction.proofs.Moves.{first_yes}
use Rattle.auction.proofs.Settlements.{settlement_of}
use Rattle.auction.proofs.Soundness.{Sound, sound_if_agrees, ranked_so, exit_now, InRound, round_out}
use Rattle.auction.proofs.Strikes.{striking}
use Rattle.book.specs.declared.terms.Application.{Application}
use Rattle.book.specs.declared.unit.Unit.{Unit as Row}
use Rattle.book.specs.Books.{leaving}
use Rattle.clearing.specs.declared.ground.Ground.TheVariants.{AllFit}
use Rattle.clearing.specs.declared.settlement.Settlement.{Settlement}
use Rattle.clearing.specs.Premise.{top_price}
use Rattle.curve.specs.Meaning.{Meaning, Laws}
use Rattle.curve.specs.Questions.{first_no}
use Rattle.ranking.specs.declared.exits.Exit.{Exit}
use Rattle.ranking.specs.Laws.{Laws as OrderLaws}
use Rattle.ranking.specs.Rankings.{RanksExits}

-- the exits of the round, as the kept turns say them, are those of the book

said_same : (kept : List Turn) (n : ℕ) → said_unit (all_exits (reverse kept)) (all_years (reverse kept)) n (application_of (enrolments (reverse kept)) n) ≡ said_unit (ledger kept).gone (ledger kept).years n (application_of (ledger kept).enrolled n)
said_same kept n =
    ap (λ (x : List (ℕ × ℕ)). said_unit x (all_years (reverse kept)) n (application_of (enrolments (reverse kept)) n)) (gone_said kept)
    ∙ ap (λ (x : List (ℕ × ℕ)). said_unit (ledger kept).gone x n (application_of (enrolments (reverse kept)) n)) (years_said kept)
    ∙ ap (λ (x : List Application). said_unit (ledger kept).gone (ledger kept).years n (application_of x n)) (enrolled_said kept)

said_now : (start s : State) (kept : List Turn) → Agrees start s (ledger kept) → (es : List (ℕ × ℕ)) → AllByRecursion (OutIn s.book.units) es → map (as_leaving (reverse kept)) es ≡ map (exit_now s.book.units) es
said_now start s kept g [] all = refl
said_now start s kept g (e ∷ es) all =
    ap (λ (u : Row). leaving e.0 u e.1 ∷ map (as_leaving (reverse kept)) es) (said_same kept e.0 ∙ sym (g.each_unit e.0 all.0.0))
    ∙ ap (λ (xs : List Exit). exit_now s.book.units e ∷ xs) (said_now start s kept g es all.1)

round_now : (start s : State) (h : List Turn) → Agrees start s (ledger (kept_latest_first h)) → InRound s (ledger (kept_latest_first h)) → round_exits h ≡ map (exit_now s.book.units) (ledger (kept_latest_first h)).round
round_now start s h g r =
    let kept : List Turn = kept_latest_first h in
    ap (map (as_leaving (struck h))) (round_said kept) ∙ said_now start s kept g (ledger kept).round (round_out start s (ledger kept) g r)

round_ranked : (start s : State) (h : List Turn) → OrderLaws (λ e. e.unit) s.ahead → Agrees start s (ledger (kept_latest_first h)) → InRound s (ledger (kept_latest_first h)) → RanksExits s.ahead (round_exits h) (ranked_exits s)
round_ranked start s h order g r =
    let ranking = ranked_so s order in
    record {
      same_items = subst (λ (xs : List Exit). IsPermutation xs (ranked_exits s)) (sym (round_now start s h g r)) (IsPermutation-trans _ _ _ r ranking.same_items);
      in_order = ranking.in_order;
    }

-- settling changes the stage alone

abbrev settled_state : State → State
settled_state s = moved_to s Settled s.round s.top s.book

sound_settled : (s : State) → Sound s → Sound (settled_state s)
sound_settled s h = record { top_most = h.top_most; large = h.large; most = h.most; in_or_out = h.in_or_out; above_floor = h.above_floor }

module _ (start : State) (before later : List Turn) (f : Figures) (settled : Bool) (end : State) (c : CloseOf start before later f settled end) (laws : Laws start.curve) (order : OrderLaws (λ e. e.unit) start.ahead) (top_most : start.top ≤ top_price) where
  settlement_then : settled ≡ true → SettlementOf start.curve start.ahead (closing_floor start.top start.spread before) f.capacity_in (round_exits before) end
  settlement_then is =
      let s : State = c.was in
      let g = c.agreed in
      let order-s : OrderLaws (λ e. e.unit) s.ahead = subst (OrderLaws (λ e. e.unit)) (sym g.ahead_stays) order in
      let laws-s : Laws s.curve = subst Laws (sym g.curve_stays) laws in
      let at-s : SettlementOf s.curve s.ahead (floor_of s) (in_of s) (round_exits before) (settled_state s) = settlement_of (settled_state s) (sound_settled s (sound_if_agrees start s _ top_most g)) order-s laws-s (round_exits before) refl (round_ranked start s before order-s g c.in_round) (c.closing.decided ∙ is) in
      subst (λ (m : Meaning). SettlementOf m start.ahead (closing_floor start.top start.spread before) f.capacity_in (round_exits before) end) g.curve_stays
      (subst (λ (a : Exit → Exit → Bool). SettlementOf s.curve a (closing_floor start.top start.spread before) f.capacity_in (round_exits before) end) g.ahead_stays
      (subst (λ (p : ℕ). SettlementOf s.curve s.ahead p f.capacity_in (round_exits before) end) (floor_then start before later f settled end c)
      (subst (λ (n : ℕ). SettlementOf s.curve s.ahead (floor_of s) n (round_exits before) end) (sym (in_then start before later f settled end c))
      (subst (SettlementOf s.curve s.ahead (floor_of s) (in_of s) (round_exits before)) (sym (ends_so start before later f settled end c is ∙ c.closing.if_settled is)) at-s))))

-- the questions of Open

open_most : (m : Meaning) (top spread threshold : ℕ) → first_no (open_questions m top spread threshold) ≡ None → top ≤ top_price
open_most m top spread threshold h =
    let q6 = (and_parts (leb 1 top && (leb top 10000 && ltb 0 (m.demand top))) _ (first_yes (open_questions m top spread threshold) h)).0 in
    let some = (and_parts (leb 1 top) _ q6).1 in
    leb-true top 10000 (and_parts (leb top 10000) _ some).0

pub clearing : (number top spread threshold : ℕ) (m : Meaning) (ahead : Exit → Exit → Bool) → Laws m → OrderLaws (λ e. e.unit) ahead → top ≤ top_price → (calls : List Call) → Clearing m ahead top spread (played (opened number top spread threshold m ahead) calls) (ended (opened number top spread threshold m ahead) calls)
clearing number top spread threshold m ahead laws order most calls =
    let start : State = opened number top spread threshold m ahead in
    let end : State = ended start calls in
    record {
      settles_if_within = λ before later t f settled split said. decided_then start before later f settled end (close_of number top spread threshold m ahead calls before later t f settled split said);
      settles_once = λ before later t f settled split said. refused_then start before later f settled end (close_of number top spread threshold m ahead calls before later t f settled split said);
      settles_by_close = settled_by_close start calls (λ e. let z : ◌≡◌ {A = ℕ} 0 1 = cc in omega arith);
      settlement = λ before later t f settled split said. settlement_then start before later f settled end (close_of number top spread threshold m ahead calls before later t f settled split said) laws order most;
    }

pub laws_over_calls : LawsOverCalls
laws_over_calls number top spread threshold m ahead laws order yes-all calls =
    record {
      capacity_inside = capacity_inside number top spread threshold m ahead laws calls;
      clearing = clearing number top spread threshold m ahead laws order (open_most m top spread threshold yes-all) calls;
      striking = striking number top spread threshold m ahead calls;
    }

-- the same of the turns that were played and the state that was reached, however they came about
pub promised : (number top spread threshold : ℕ) (m : Meaning) (ahead : Exit → Exit → Bool) → Laws m → OrderLaws (λ e. e.unit) ahead
    → first_no (open_questions m top spread threshold) ≡ None → (calls : List Call) (turns : List Turn) (end : State)
    → turns ≡ played (opened number top spread threshold m ahead) calls → end ≡ ended (opened number top spread threshold m ahead) calls
    → Promise (opened number top spread threshold m ahead) turns end
promised number top spread threshold m ahead laws order yes-all calls turns end t e =
    let start : State = opened number top spread threshold m ahead in
    subst (λ (h : List Turn). Promise start h end) (sym t)
    (subst (λ (z : State). Promise start (played start calls) z) (sym e) (laws_over_calls number top spread threshold m ahead laws order yes-all calls))

settlement_by : State → Option Settlement → Settlement
settlement_by s o = elim o [ None ↦ record { price = floor_of s; ground = AllFit; stop = 0 } | Some settled ↦ settled ]

-- the round of a settled auction clears, and what is read is its settlement
pub settled_priced : (start : State) (h : List Turn) (end : State) → Promise start h end → SettledPriced end
unfolding settlement_by
settled_priced start h end p is =
    let close = p.clearing.settles_by_close is in
    let found = p.clearing.settlement close.before close.later close.at close.figures true close.split close.settled refl in
    found.is_priced ∙ ap (λ (o : Settlement). Some o) (sym (ap (settlement_by end) found.is_priced))
