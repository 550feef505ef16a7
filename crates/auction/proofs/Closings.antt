-- Capacity in, and when an auction settles: what holds at each accepted Close.
use Rattle.std.proofs.Common.{◌≡◌, ℕ, ◌+◌, ◌≤◌, Bool, true, ◌⊎◌, List, [], ◌∷◌, ◌++◌, length, sum_by, sym, refl, ap, ◌∙◌, subst, inl, inr, ⊎_elim, arith}
use Rattle.std.specs.List.{AllByRecursion}
use Rattle.std.proofs.lemmas.List.{length_push}
use Rattle.auction.specs.declared.calls.Call.{Call}
use Rattle.auction.specs.declared.calls.Figures.{Figures}
use Rattle.auction.specs.declared.calls.Turn.{Turn}
use Rattle.auction.specs.declared.clocks.Stage.{Stage}
use Rattle.auction.specs.declared.clocks.Stage.TheVariants.{Open, Settled}
use Rattle.auction.specs.History.{refused, closes, saying, turn, played, ended, struck, kept_latest_first, all_exits, application_of, closings, enrolled_kw, exits_kw, floor_after}
use Rattle.auction.specs.Promise.{closing_floor, CapacityIn, SettledIn}
use Rattle.auction.specs.State.{State, floor_of, in_of}
use Rattle.auction.specs.Steps.{step, opened, figures_of}
use Rattle.auction.proofs.Agreement.{Agrees, agrees, closes_floor}
use Rattle.auction.proofs.Ledgers.{Ledger, ledger, gone_said}
use Rattle.auction.proofs.Moments.{moment, Closing, closing_of, enrolments_kept, closings_kept}
use Rattle.auction.proofs.Moves.{Move, refusing, enrolling, beginning, exiting, serving, backing, shutting, settling, going_on, after, heard, moved}
use Rattle.auction.proofs.Soundness.{InRound, in_round}
use Rattle.auction.proofs.Trails.{follows}
use Rattle.book.specs.declared.terms.Application.{Application}
use Rattle.curve.proofs.DemandWords.{words}
use Rattle.curve.specs.Meaning.{Meaning, Laws, ceiling}
use Rattle.curve.specs.Words.{within}
use Rattle.ranking.specs.declared.exits.Exit.{Exit as Leaving}

-- once settled, every call is refused

other_stage : (g : Stage) {A : Type 0} → ◌≡◌ {A = ℕ} 0 1 → A
other_stage g z = absurd (omega arith)

settled_move : (s : State) (move : Move s) → s.stage ≡ Settled → (heard s move ≡ refused) × (after s move ≡ s)
settled_move s refusing e = (refl, refl)
settled_move s (enrolling a h) e = let x = h.stage_is in other_stage Open (cc)
settled_move s (beginning h) e = other_stage Open (cc)
settled_move s (exiting i price h) e = let x = h.stage_is in other_stage Open (cc)
settled_move s (serving i years h) e = let x = h.stage_is in other_stage Open (cc)
settled_move s (backing h) e = let x = h.stage_is in other_stage Open (cc)
settled_move s (shutting h) e = let x = h.stage_is in other_stage Open (cc)
settled_move s (settling h) e = let x = h.stage_is in other_stage Open (cc)
settled_move s (going_on h) e = other_stage Open (cc)

settled_turn : (s : State) (c : Call) → s.stage ≡ Settled → (saying (turn c (step s c).1) ≡ refused) × ((step s c).0 ≡ s)
settled_turn s c e =
    let m = moved s c in
    let r = settled_move s m.move e in
    (m.saying_is ∙ r.0, m.state_is ∙ r.1)

pub settled_stays : (s : State) (calls : List Call) → s.stage ≡ Settled → AllByRecursion (λ t. saying t ≡ refused) (played s calls) × (ended s calls ≡ s)
settled_stays s [] e = (tt, refl)
settled_stays s (c ∷ calls) e =
    let r = settled_turn s c e in
    let i = settled_stays (step s c).0 calls (ap (λ (z : State). z.stage) r.1 ∙ e) in
    ((r.0, i.0), i.1 ∙ r.1)

-- only a Close settles an auction

settling_move : (s : State) (move : Move s) → (s.stage ≡ Settled → ⊥) → (heard s move ≡ closes (figures_of s) true) ⊎ ((after s move).stage ≡ Settled → ⊥)
settling_move s refusing unsettled = inr unsettled
settling_move s (enrolling a h) unsettled = inr unsettled
settling_move s (beginning h) unsettled = inr (λ e. let z : ◌≡◌ {A = ℕ} 0 1 = cc in omega arith)
settling_move s (exiting i price h) unsettled = inr unsettled
settling_move s (serving i years h) unsettled = inr unsettled
settling_move s (backing h) unsettled = inr unsettled
settling_move s (shutting h) unsettled = inr (λ e. let z : ◌≡◌ {A = ℕ} 0 1 = cc in omega arith)
settling_move s (settling h) unsettled = inl refl
settling_move s (going_on h) unsettled = inr (λ e. let z : ◌≡◌ {A = ℕ} 0 1 = cc in omega arith)

settled_later : (t : Turn) (h : List Turn) → SettledIn h → SettledIn (t ∷ h)
settled_later t h i =
    record {
      before = t ∷ i.before;
      later = i.later;
      at = i.at;
      figures = i.figures;
      split = ap (λ (l : List Turn). t ∷ l) i.split;
      settled = i.settled;
    }

pub settled_by_close : (s : State) (calls : List Call) → (s.stage ≡ Settled → ⊥) → (ended s calls).stage ≡ Settled → SettledIn (played s calls)
settled_by_close s [] unsettled e = absurd (unsettled e)
settled_by_close s (c ∷ calls) unsettled e =
    let m = moved s c in
    ⊎_elim
    (λ says_so. record { before = []; later = played (step s c).0 calls; at = turn c (step s c).1; figures = figures_of s; split = refl; settled = m.saying_is ∙ says_so })
    (λ not_yet. settled_later (turn c (step s c).1) (played (step s c).0 calls) (settled_by_close (step s c).0 calls (λ is. not_yet (sym (ap (λ (z : State). z.stage) m.state_is) ∙ is)) e))
    (settling_move s m.move unsettled)

-- an accepted Close: the auction as it was, what it became then, and the calls that followed
pub record CloseOf (start : State) (before later : List Turn) (f : Figures) (settled : Bool) (end : State) : Type 0 where
  pub was : State
  pub then : State
  pub rest : List Call
  pub agreed : Agrees start was (ledger (kept_latest_first before))
  pub in_round : InRound was (ledger (kept_latest_first before))
  pub closing : Closing was then f settled
  pub later_is : later ≡ played then rest
  pub end_is : end ≡ ended then rest

module _ (number top spread threshold : ℕ) (m : Meaning) (ahead : Leaving → Leaving → Bool) (calls : List Call) where
  abbrev start : State
  start = opened number top spread threshold m ahead

  pub close_of : (before later : List Turn) (t : Turn) (f : Figures) (settled : Bool) → played start calls ≡ before ++ t ∷ later → saying t ≡ closes f settled → CloseOf start before later f settled (ended start calls)
  close_of before later t f settled split said =
      let o = moment start calls before later t split in
      let s : State = ended start o.first in
      let fo = follows start refl refl o.first in
      let kept : List Turn = kept_latest_first (played start o.first) in
      let g : Agrees start s (ledger kept) = subst (λ (z : State). Agrees start z (ledger kept)) (sym fo.is_replayed) (agrees number top spread threshold m ahead kept fo.replays) in
      let r : InRound s (ledger kept) = subst (λ (z : State). InRound z (ledger kept)) (sym fo.is_replayed) (in_round number top spread threshold m ahead kept fo.replays) in
      let mv = moved s o.call in
      let heard-is : heard s mv.move ≡ closes f settled = sym mv.saying_is ∙ sym (ap saying o.turn_is) ∙ said in
      record {
        was = s;
        then = (step s o.call).0;
        rest = o.rest;
        agreed = subst (λ (b : List Turn). Agrees start s (ledger (kept_latest_first b))) (sym o.before_is) g;
        in_round = subst (λ (b : List Turn). InRound s (ledger (kept_latest_first b))) (sym o.before_is) r;
        closing = subst (λ (z : State). Closing s z f settled) (sym mv.state_is) (closing_of s mv.move f settled heard-is);
        later_is = o.later_is;
        end_is = o.end_is;
      }

-- at a Close

module _ (start : State) (before later : List Turn) (f : Figures) (settled : Bool) (end : State) (c : CloseOf start before later f settled end) where
  abbrev l : Ledger
  l = ledger (kept_latest_first before)

  pub in_then : f.capacity_in ≡ in_of c.was
  in_then = ap (λ (x : Figures). x.capacity_in) c.closing.figures_are

  pub floor_then : floor_of c.was ≡ closing_floor start.top start.spread before
  floor_then =
      closes_floor start c.was l f c.agreed c.closing.stage_is
      ∙ ap (floor_after start.top start.spread) (length_push l.closed f)
      ∙ ap (λ (fs : List Figures). floor_after start.top start.spread (length fs + 1)) (sym (closings_kept before))

  accounted_then : f.capacity_in + exits_kw before ≡ enrolled_kw before
  accounted_then =
      let kept : List Turn = kept_latest_first before in
      let out : exits_kw before ≡ sum_by (λ e. (application_of l.enrolled e.0).capacity) l.gone = ap (λ (x : List Application). sum_by (λ e. (application_of x e.0).capacity) (all_exits (struck before))) (enrolments_kept before) ∙ ap (sum_by (λ e. (application_of l.enrolled e.0).capacity)) (gone_said kept) in
      let all : enrolled_kw before ≡ sum_by (λ a. a.capacity) l.enrolled = ap (sum_by (λ a. a.capacity)) (enrolments_kept before) in
      let accounts = c.agreed.accounts in
      let total = c.agreed.total in
      let here = in_then in
      omega arith

  demanded_then : f.demand ≡ start.curve.demand (closing_floor start.top start.spread before)
  demanded_then =
      ap (λ (x : Figures). x.demand) c.closing.figures_are
      ∙ ap (λ (m : Meaning). m.demand (floor_of c.was)) c.agreed.curve_stays
      ∙ ap start.curve.demand floor_then

  never_rises_then : AllByRecursion (λ g. f.capacity_in ≤ g.capacity_in) (closings before)
  never_rises_then =
      subst (AllByRecursion (λ g. f.capacity_in ≤ g.capacity_in)) (sym (closings_kept before))
      (subst (λ (n : ℕ). AllByRecursion (λ g. n ≤ g.capacity_in) l.closed) (sym in_then) c.agreed.never_more)

  pub decided_then : settled ≡ within start.curve (closing_floor start.top start.spread before) f.capacity_in
  decided_then =
      sym c.closing.decided
      ∙ ap (λ (m : Meaning). within m (floor_of c.was) (in_of c.was)) c.agreed.curve_stays
      ∙ ap (λ (p : ℕ). within start.curve p (in_of c.was)) floor_then
      ∙ ap (within start.curve (closing_floor start.top start.spread before)) (sym in_then)

  zero_then : Laws start.curve → closing_floor start.top start.spread before ≡ 0 → settled ≡ true
  zero_then laws zero-floor =
      let accounts = c.agreed.accounts in
      let most = c.agreed.most in
      let here = in_then in
      let small : f.capacity_in ≤ ceiling = omega arith in
      decided_then ∙ ap (λ (p : ℕ). within start.curve p f.capacity_in) zero-floor ∙ (words start.curve laws).free f.capacity_in small

  pub settled_there : settled ≡ true → c.then.stage ≡ Settled
  settled_there is = ap (λ (z : State). z.stage) (c.closing.if_settled is)

  pub refused_then : settled ≡ true → AllByRecursion (λ t. saying t ≡ refused) later
  refused_then is = subst (AllByRecursion (λ t. saying t ≡ refused)) (sym c.later_is) (settled_stays c.then c.rest (settled_there is)).0

  -- and the auction ends as it settled
  pub ends_so : settled ≡ true → end ≡ c.then
  ends_so is = c.end_is ∙ (settled_stays c.then c.rest (settled_there is)).1

pub capacity_inside : (number top spread threshold : ℕ) (m : Meaning) (ahead : Leaving → Leaving → Bool) → Laws m → (calls : List Call) → CapacityIn m top spread (played (opened number top spread threshold m ahead) calls)
capacity_inside number top spread threshold m ahead laws calls =
    let start : State = opened number top spread threshold m ahead in
    let end : State = ended start calls in
    record {
      accounted = λ before later t f settled split said. accounted_then start before later f settled end (close_of number top spread threshold m ahead calls before later t f settled split said);
      demanded = λ before later t f settled split said. demanded_then start before later f settled end (close_of number top spread threshold m ahead calls before later t f settled split said);
      never_rises = λ before later t f settled split said. never_rises_then start before later f settled end (close_of number top spread threshold m ahead calls before later t f settled split said);
      at_floor_zero = λ before later t f settled split said. zero_then start before later f settled end (close_of number top spread threshold m ahead calls before later t f settled split said) laws;
    }
