-- What holds between an auction and the ledger of its kept turns.
use Rattle.std.proofs.Common.{◌≡◌, ℕ, ◌+◌, ◌-◌, ◌<◌, ◌≤◌, Bool, true, false, eqb, List, [], ◌∷◌, ◌++◌, length, get_or, set, Some, None, sum_by, Option, sym, refl, ap, ◌∙◌, subst, ⊎_elim, arith}
use Rattle.std.specs.List.{AllByRecursion}
use Rattle.std.proofs.ByRecursion.{All-push, All-set, All-weaker, All-get_or}
use Rattle.std.proofs.lemmas.List.{length-set, length_push, get_or-set_same, get_or-set_other, get_or_append_left, get_or_push, append-nil, append_assoc}
use Rattle.std.proofs.lemmas.List.Sums.{sum_by_push}
use Rattle.std.proofs.lemmas.Bool.{false≢true, cases_eq, cases_lt, cond-true, cond-false, eq-eqb, ne_eqb}
use Rattle.auction.specs.declared.calls.Figures.{Figures}
use Rattle.auction.specs.declared.calls.Turn.{Turn}
use Rattle.auction.specs.declared.clocks.Stage.{Stage}
use Rattle.auction.specs.declared.clocks.Stage.TheVariants.{Enrolling, Open, Shut, Settled}
use Rattle.auction.specs.State.{State, floor_of, in_of}
use Rattle.auction.specs.Steps.{figures_of, opened}
use Rattle.auction.specs.History.{enrols, opens, exits, serves, closes, application_of, floor_after, last_for, unit_said, said_unit}
use Rattle.auction.proofs.Ledgers.{Ledger, no_ledger, noted, ledger, along}
use Rattle.auction.proofs.Moves.{Move, refusing, enrolling, beginning, exiting, serving, backing, shutting, settling, going_on, after, heard, Enrols, Exits, Serves, Closes}
use Rattle.auction.proofs.Rows.{kw, new_unit_is, new_in_kw, last_push, none_is}
use Rattle.book.proofs.ModelLaws.{capacity_one_more, capacity_changes, total_one_more, total_stays}
use Rattle.book.proofs.Rules.{new_capacity}
use Rattle.auction.proofs.Trails.{keeps, replayed, Replays}
use Rattle.book.specs.declared.terms.Application.{Application}
use Rattle.book.specs.declared.unit.Unit.{Unit as Row}
use Rattle.book.specs.Books.{no_unit, new_unit, stood, out_at, for_years, in_kw, capacity_inside, total_enrolled}
use Rattle.curve.specs.Meaning.{Meaning, ceiling}
use Rattle.ranking.specs.declared.exits.Exit.{Exit as Leaving}

-- while units are enrolled nothing else was done
abbrev pub BegunAt : Stage → Ledger → Type 0
BegunAt Enrolling l = (l.gone ≡ []) × (l.years ≡ []) × (l.closed ≡ [])
BegunAt Open l = Unit {0}
BegunAt Shut l = Unit {0}
BegunAt Settled l = Unit {0}

-- the cap of an open round is the floor of the last Close, and the floor of a closed round is its own Close's
abbrev pub FloorAt : Stage → ℕ → ℕ → ℕ → Type 0
FloorAt Enrolling top floor last = top ≡ last
FloorAt Open top floor last = top ≡ last
FloorAt Shut top floor last = floor ≡ last
FloorAt Settled top floor last = floor ≡ last

-- an exit stands in the book: its unit left at its price
abbrev pub OutIn : List Row → ℕ × ℕ → Type 0
OutIn us e = (e.0 < length us) × ((get_or us e.0 no_unit).standing.exit ≡ Some e.1)

pub record Agrees (start s : State) (l : Ledger) : Type 0 where
  pub spread_stays : s.spread ≡ start.spread
  pub curve_stays : s.curve ≡ start.curve
  pub ahead_stays : s.ahead ≡ start.ahead
  pub top_most : s.top ≤ start.top
  pub begun : BegunAt s.stage l
  pub floors : FloorAt s.stage s.top (floor_of s) (floor_after start.top start.spread (length l.closed))
  pub count : length s.book.units ≡ length l.enrolled
  pub each_unit : (n : ℕ) → n < length s.book.units → get_or s.book.units n no_unit ≡ said_unit l.gone l.years n (application_of l.enrolled n)
  pub large : AllByRecursion (λ u. 1000 ≤ u.enrolled.capacity) s.book.units
  pub total : total_enrolled s.book.units ≡ sum_by (λ a. a.capacity) l.enrolled
  pub most : total_enrolled s.book.units ≤ ceiling
  pub accounts : in_of s + sum_by (λ e. (application_of l.enrolled e.0).capacity) l.gone ≡ total_enrolled s.book.units
  pub never_more : AllByRecursion (λ f. in_of s ≤ f.capacity_in) l.closed
  pub out : AllByRecursion (OutIn s.book.units) l.gone
  pub above_floor : AllByRecursion (λ e. floor_of s < e.1) l.gone
  pub rounds : l.gone ≡ l.earlier ++ l.round
  pub earlier_above : AllByRecursion (λ e. s.top < e.1) l.earlier
  pub round_most : AllByRecursion (λ e. e.1 ≤ s.top) l.round

-- the exits that stand are of other units than one that is in
out_kept : (us : List Row) (i : ℕ) (u : Row) → (get_or us i no_unit).standing.exit ≡ None → (e : ℕ × ℕ) → OutIn us e → OutIn (set us i u) e
out_kept us i u stays e (here, gone) =
    let ne : e.0 ≡ i → ⊥ = λ q. let same = ap (λ (n : ℕ). (get_or us n no_unit).standing.exit) q in let z : ◌≡◌ {A = ℕ} 0 1 = cc in omega arith in
    (rw length-set here, ap (λ (v : Row). v.standing.exit) (get_or-set_other us i e.0 u no_unit ne) ∙ gone)

-- the units after an entry, as said

module _ (us : List Row) (gone years : List (ℕ × ℕ)) (applications : List Application) (each : (n : ℕ) → n < length us → get_or us n no_unit ≡ said_unit gone years n (application_of applications n)) (i : ℕ) (here : i < length us) where
  exits_said : (price n : ℕ) → n < length us → get_or (set us i (stood (get_or us i no_unit) (out_at (get_or us i no_unit).standing price))) n no_unit ≡ said_unit (gone ++ (i, price) ∷ []) years n (application_of applications n)
  exits_said price n there =
      let a : Application = application_of applications n in
      let u : Row = stood (get_or us i no_unit) (out_at (get_or us i no_unit).standing price) in
      ⊎_elim
      (λ (e : n ≡ i).
      let last : last_for n None (gone ++ (i, price) ∷ []) ≡ Some price = last_push n None gone (i, price) ∙ cond-true (eqb n i) _ _ (eq-eqb n i e) in
      let said : get_or us i no_unit ≡ said_unit gone years n a = ap (λ (k : ℕ). get_or us k no_unit) (sym e) ∙ each n there in
      let at_i : get_or (set us i u) n no_unit ≡ u = ap (λ (k : ℕ). get_or (set us i u) k no_unit) e ∙ get_or-set_same us i u no_unit here in
      at_i ∙ ap (λ (v : Row). stood v (out_at v.standing price)) said ∙ ap (λ (o : Option ℕ). unit_said a o (last_for n None years)) (sym last))
      (λ (ne : n ≡ i → ⊥).
      let last : last_for n None (gone ++ (i, price) ∷ []) ≡ last_for n None gone = last_push n None gone (i, price) ∙ cond-false (eqb n i) _ _ (ne_eqb n i ne) in
      get_or-set_other us i n u no_unit ne ∙ each n there ∙ ap (λ (o : Option ℕ). unit_said a o (last_for n None years)) (sym last))
      (cases_eq n i)

  years_said : (so-many n : ℕ) → n < length us → get_or (set us i (stood (get_or us i no_unit) (for_years (get_or us i no_unit).standing so-many))) n no_unit ≡ said_unit gone (years ++ (i, so-many) ∷ []) n (application_of applications n)
  years_said so-many n there =
      let a : Application = application_of applications n in
      let u : Row = stood (get_or us i no_unit) (for_years (get_or us i no_unit).standing so-many) in
      ⊎_elim
      (λ (e : n ≡ i).
      let last : last_for n None (years ++ (i, so-many) ∷ []) ≡ Some so-many = last_push n None years (i, so-many) ∙ cond-true (eqb n i) _ _ (eq-eqb n i e) in
      let said : get_or us i no_unit ≡ said_unit gone years n a = ap (λ (k : ℕ). get_or us k no_unit) (sym e) ∙ each n there in
      let at_i : get_or (set us i u) n no_unit ≡ u = ap (λ (k : ℕ). get_or (set us i u) k no_unit) e ∙ get_or-set_same us i u no_unit here in
      at_i ∙ ap (λ (v : Row). stood v (for_years v.standing so-many)) said ∙ ap (λ (o : Option ℕ). unit_said a (last_for n None gone) o) (sym last))
      (λ (ne : n ≡ i → ⊥).
      let last : last_for n None (years ++ (i, so-many) ∷ []) ≡ last_for n None years = last_push n None years (i, so-many) ∙ cond-false (eqb n i) _ _ (ne_eqb n i ne) in
      get_or-set_other us i n u no_unit ne ∙ each n there ∙ ap (λ (o : Option ℕ). unit_said a (last_for n None gone) o) (sym last))
      (cases_eq n i)

  -- a unit that is in has no exit price
  pub in_unpriced : (get_or us i no_unit).standing.inside ≡ true → (get_or us i no_unit).standing.exit ≡ None
  in_unpriced inside =
      let said = each i here in
      let o : Option ℕ = last_for i None gone in
      ap (λ (v : Row). v.standing.exit) said ∙ none_is o (sym (ap (λ (v : Row). v.standing.inside) said) ∙ inside)

  kw_said : (get_or us i no_unit).enrolled.capacity ≡ (application_of applications i).capacity
  kw_said = ap kw (each i here) ∙ new_capacity (application_of applications i)

-- one more unit, while nothing else was done
enrols_said : (us : List Row) (gone years : List (ℕ × ℕ)) (applications : List Application) → length us ≡ length applications → gone ≡ [] → years ≡ [] → ((n : ℕ) → n < length us → get_or us n no_unit ≡ said_unit gone years n (application_of applications n)) → (a : Application) (n : ℕ) → n < length (us ++ new_unit a ∷ []) → get_or (us ++ new_unit a ∷ []) n no_unit ≡ said_unit gone years n (application_of (applications ++ a ∷ []) n)
enrols_said us gone years applications count no-gone no-years each a n there =
    let more : length (us ++ new_unit a ∷ []) ≡ length us + 1 = length_push us (new_unit a) in
    ⊎_elim
    (λ (lt : n < length us).
    let short : n < length applications = omega arith in
    get_or_append_left us (new_unit a ∷ []) no_unit n lt ∙ each n lt
    ∙ ap (said_unit gone years n) (sym (get_or_append_left applications (a ∷ []) _ n short)))
    (λ (ge : length us ≤ n).
    let e : length us ≡ n = omega arith in
    let none : last_for n None gone ≡ None = ap (last_for n None) no-gone in
    let none-y : last_for n None years ≡ None = ap (last_for n None) no-years in
    let is : application_of (applications ++ a ∷ []) n ≡ a = get_or_push applications a _ n (sym count ∙ e) in
    get_or_push us (new_unit a) no_unit n e ∙ new_unit_is a
    ∙ ap (λ (o : Option ℕ). unit_said a o None) (sym none)
    ∙ ap (λ (o : Option ℕ). unit_said a (last_for n None gone) o) (sym none-y)
    ∙ ap (said_unit gone years n) (sym is))
    (cases_lt n (length us))

pub begun_at : (s : State) (l : Ledger) → BegunAt s.stage l → s.stage ≡ Enrolling → (l.gone ≡ []) × (l.years ≡ []) × (l.closed ≡ [])
begun_at s l h e = subst (λ (g : Stage). BegunAt g l) e h

open_begun : (s : State) (l : Ledger) → s.stage ≡ Open → BegunAt s.stage l
open_begun s l e = subst (λ (g : Stage). BegunAt g l) (sym e) tt

pub all_none : {X : Type 0} (P : X → Type 0) (xs : List X) → xs ≡ [] → AllByRecursion P xs
all_none P xs e = subst (AllByRecursion P) (sym e) tt

enrols_more : (start s : State) (l : Ledger) (a : Application) (h : Enrols s a) → Agrees start s l → Agrees start (after s (enrolling a h)) (noted l (enrols a))
enrols_more start s l a h g =
    let us : List Row = s.book.units in
    let none = begun_at s l g.begun h.stage_is in
    let more : length (us ++ new_unit a ∷ []) ≡ length us + 1 = length_push us (new_unit a) in
    let long : length (l.enrolled ++ a ∷ []) ≡ length l.enrolled + 1 = length_push l.enrolled a in
    let count = g.count in
    let total-more : total_enrolled (us ++ new_unit a ∷ []) ≡ total_enrolled us + a.capacity = total_one_more us (new_unit a) ∙ ap (λ n. total_enrolled us + n) (new_capacity a) in
    let in-more : capacity_inside (us ++ new_unit a ∷ []) ≡ capacity_inside us + a.capacity = capacity_one_more us (new_unit a) ∙ ap (λ n. capacity_inside us + n) (new_in_kw a) in
    let said_more : sum_by (λ x. x.capacity) (l.enrolled ++ a ∷ []) ≡ sum_by (λ x. x.capacity) l.enrolled + a.capacity = sum_by_push (λ x. x.capacity) l.enrolled a in
    let gone-now : sum_by (λ e. (application_of (l.enrolled ++ a ∷ []) e.0).capacity) l.gone ≡ 0 = ap (sum_by (λ e. (application_of (l.enrolled ++ a ∷ []) e.0).capacity)) none.0 in
    let gone-then : sum_by (λ e. (application_of l.enrolled e.0).capacity) l.gone ≡ 0 = ap (sum_by (λ e. (application_of l.enrolled e.0).capacity)) none.0 in
    let total = g.total in
    let accounts = g.accounts in
    let room = h.room in
    record {
      spread_stays = g.spread_stays;
      curve_stays = g.curve_stays;
      ahead_stays = g.ahead_stays;
      top_most = g.top_most;
      begun = subst (λ (k : Stage). BegunAt k (noted l (enrols a))) (sym h.stage_is) none;
      floors = g.floors;
      count = omega arith;
      each_unit = enrols_said us l.gone l.years l.enrolled g.count none.0 none.1 g.each_unit a;
      large = All-push _ us (new_unit a) g.large (let e = new_capacity a in let least = h.least in omega arith);
      total = omega arith;
      most = omega arith;
      accounts = omega arith;
      never_more = all_none _ l.closed none.2;
      out = all_none _ l.gone none.0;
      above_floor = g.above_floor;
      rounds = g.rounds;
      earlier_above = g.earlier_above;
      round_most = g.round_most;
    }

begins_more : (start s : State) (l : Ledger) (h : s.stage ≡ Enrolling) → Agrees start s l → Agrees start (after s (beginning h)) (noted l opens)
begins_more start s l h g =
    let none = begun_at s l g.begun h in
    record {
      spread_stays = g.spread_stays;
      curve_stays = g.curve_stays;
      ahead_stays = g.ahead_stays;
      top_most = g.top_most;
      begun = tt;
      floors = subst (λ (k : Stage). FloorAt k s.top (floor_of s) (floor_after start.top start.spread (length l.closed))) h g.floors;
      count = g.count;
      each_unit = g.each_unit;
      large = g.large;
      total = g.total;
      most = g.most;
      accounts = g.accounts;
      never_more = g.never_more;
      out = g.out;
      above_floor = g.above_floor;
      rounds = sym (append-nil l.gone);
      earlier_above = all_none _ l.gone none.0;
      round_most = tt;
    }

exits_more : (start s : State) (l : Ledger) (i price : ℕ) (h : Exits s i price) → Agrees start s l → Agrees start (after s (exiting i price h)) (noted l (exits i price))
exits_more start s l i price h g =
    let us : List Row = s.book.units in
    let u : Row = stood (get_or us i no_unit) (out_at (get_or us i no_unit).standing price) in
    let same_length : length (set us i u) ≡ length us = length-set us i u in
    let unpriced : (get_or us i no_unit).standing.exit ≡ None = in_unpriced us l.gone l.years l.enrolled g.each_unit i h.here h.inside in
    let kw-i : (get_or us i no_unit).enrolled.capacity ≡ (application_of l.enrolled i).capacity = kw_said us l.gone l.years l.enrolled g.each_unit i h.here in
    let total-same : total_enrolled (set us i u) ≡ total_enrolled us = total_stays us i (out_at (get_or us i no_unit).standing price) in
    let in-before : in_kw (get_or us i no_unit) ≡ (get_or us i no_unit).enrolled.capacity = ap (λ (o : Option ℕ). in_kw (stood (get_or us i no_unit) (record { years = 0; inside = false; exit = o }))) unpriced in
    let in-now : capacity_inside (set us i u) + in_kw (get_or us i no_unit) ≡ capacity_inside us + 0 = capacity_changes us i (out_at (get_or us i no_unit).standing price) h.here in
    let gone-more : sum_by (λ e. (application_of l.enrolled e.0).capacity) (l.gone ++ (i, price) ∷ []) ≡ sum_by (λ e. (application_of l.enrolled e.0).capacity) l.gone + (application_of l.enrolled i).capacity = sum_by_push (λ e. (application_of l.enrolled e.0).capacity) l.gone (i, price) in
    let total = g.total in
    let count = g.count in
    let most = g.most in
    let accounts = g.accounts in
    record {
      spread_stays = g.spread_stays;
      curve_stays = g.curve_stays;
      ahead_stays = g.ahead_stays;
      top_most = g.top_most;
      begun = open_begun s (noted l (exits i price)) h.stage_is;
      floors = g.floors;
      count = omega arith;
      each_unit = λ n lt. exits_said us l.gone l.years l.enrolled g.each_unit i h.here price n (omega arith);
      large = All-set _ us i u (All-get_or (λ v. 1000 ≤ v.enrolled.capacity) us i no_unit h.here g.large) g.large;
      total = omega arith;
      most = omega arith;
      accounts = omega arith;
      never_more = All-weaker (λ f. capacity_inside us ≤ f.capacity_in) _ (λ f le. omega arith) l.closed g.never_more;
      out = All-push _ l.gone (i, price) (All-weaker (OutIn us) _ (out_kept us i u unpriced) l.gone g.out) (rw length-set h.here, ap (λ (v : Row). v.standing.exit) (get_or-set_same us i u no_unit h.here));
      above_floor = All-push _ l.gone (i, price) g.above_floor h.above;
      rounds = ap (λ (es : List (ℕ × ℕ)). es ++ (i, price) ∷ []) g.rounds ∙ append_assoc l.earlier l.round ((i, price) ∷ []);
      earlier_above = g.earlier_above;
      round_most = All-push _ l.round (i, price) g.round_most h.most;
    }

serves_more : (start s : State) (l : Ledger) (i years : ℕ) (h : Serves s i years) → Agrees start s l → Agrees start (after s (serving i years h)) (noted l (serves i years))
serves_more start s l i years h g =
    let us : List Row = s.book.units in
    let u : Row = stood (get_or us i no_unit) (for_years (get_or us i no_unit).standing years) in
    let same_length : length (set us i u) ≡ length us = length-set us i u in
    let unpriced : (get_or us i no_unit).standing.exit ≡ None = in_unpriced us l.gone l.years l.enrolled g.each_unit i h.here h.inside in
    let total-same : total_enrolled (set us i u) ≡ total_enrolled us = total_stays us i (for_years (get_or us i no_unit).standing years) in
    let in-now : capacity_inside (set us i u) + in_kw (get_or us i no_unit) ≡ capacity_inside us + in_kw (get_or us i no_unit) = capacity_changes us i (for_years (get_or us i no_unit).standing years) h.here in
    let total = g.total in
    let count = g.count in
    let most = g.most in
    let accounts = g.accounts in
    record {
      spread_stays = g.spread_stays;
      curve_stays = g.curve_stays;
      ahead_stays = g.ahead_stays;
      top_most = g.top_most;
      begun = open_begun s (noted l (serves i years)) h.stage_is;
      floors = g.floors;
      count = omega arith;
      each_unit = λ n lt. years_said us l.gone l.years l.enrolled g.each_unit i h.here years n (omega arith);
      large = All-set _ us i u (All-get_or (λ v. 1000 ≤ v.enrolled.capacity) us i no_unit h.here g.large) g.large;
      total = omega arith;
      most = omega arith;
      accounts = omega arith;
      never_more = All-weaker (λ f. capacity_inside us ≤ f.capacity_in) _ (λ f le. omega arith) l.closed g.never_more;
      out = All-weaker (OutIn us) _ (out_kept us i u unpriced) l.gone g.out;
      above_floor = g.above_floor;
      rounds = g.rounds;
      earlier_above = g.earlier_above;
      round_most = g.round_most;
    }

-- the floor of a round that is closed, from its cap
next_floor : (top cap spread n : ℕ) → cap ≡ floor_after top spread n → cap - spread ≡ floor_after top spread (n + 1)
next_floor top cap spread n e = omega arith

pub closes_floor : (start s : State) (l : Ledger) (f : Figures) → Agrees start s l → s.stage ≡ Open → floor_of s ≡ floor_after start.top start.spread (length (l.closed ++ f ∷ []))
closes_floor start s l f g e =
    let at_open : s.top ≡ floor_after start.top start.spread (length l.closed) = subst (λ (k : Stage). FloorAt k s.top (floor_of s) (floor_after start.top start.spread (length l.closed))) e g.floors in
    ap (λ (n : ℕ). s.top - n) g.spread_stays ∙ next_floor start.top s.top start.spread (length l.closed) at_open
    ∙ ap (floor_after start.top start.spread) (sym (length_push l.closed f))

shuts_more : (start s : State) (l : Ledger) (h : Closes s false) → Agrees start s l → Agrees start (after s (shutting h)) (noted l (closes (figures_of s) false))
shuts_more start s l h g =
    record {
      spread_stays = g.spread_stays;
      curve_stays = g.curve_stays;
      ahead_stays = g.ahead_stays;
      top_most = g.top_most;
      begun = tt;
      floors = closes_floor start s l (figures_of s) g h.stage_is;
      count = g.count;
      each_unit = g.each_unit;
      large = g.large;
      total = g.total;
      most = g.most;
      accounts = g.accounts;
      never_more = All-push (λ f. in_of s ≤ f.capacity_in) l.closed (figures_of s) g.never_more (omega arith);
      out = g.out;
      above_floor = g.above_floor;
      rounds = g.rounds;
      earlier_above = g.earlier_above;
      round_most = g.round_most;
    }

settles_more : (start s : State) (l : Ledger) (h : Closes s true) → Agrees start s l → Agrees start (after s (settling h)) (noted l (closes (figures_of s) true))
settles_more start s l h g =
    record {
      spread_stays = g.spread_stays;
      curve_stays = g.curve_stays;
      ahead_stays = g.ahead_stays;
      top_most = g.top_most;
      begun = tt;
      floors = closes_floor start s l (figures_of s) g h.stage_is;
      count = g.count;
      each_unit = g.each_unit;
      large = g.large;
      total = g.total;
      most = g.most;
      accounts = g.accounts;
      never_more = All-push (λ f. in_of s ≤ f.capacity_in) l.closed (figures_of s) g.never_more (omega arith);
      out = g.out;
      above_floor = g.above_floor;
      rounds = g.rounds;
      earlier_above = g.earlier_above;
      round_most = g.round_most;
    }

-- the old floor is the cap, and every exit so far was above it
goes_on_more : (start s : State) (l : Ledger) (h : s.stage ≡ Shut) → Agrees start s l → Agrees start (after s (going_on h)) (noted l opens)
goes_on_more start s l h g =
    let top_most = g.top_most in
    record {
      spread_stays = g.spread_stays;
      curve_stays = g.curve_stays;
      ahead_stays = g.ahead_stays;
      top_most = omega arith;
      begun = tt;
      floors = subst (λ (k : Stage). FloorAt k s.top (floor_of s) (floor_after start.top start.spread (length l.closed))) h g.floors;
      count = g.count;
      each_unit = g.each_unit;
      large = g.large;
      total = g.total;
      most = g.most;
      accounts = g.accounts;
      never_more = g.never_more;
      out = g.out;
      above_floor = All-weaker (λ e. floor_of s < e.1) _ (λ e lt. omega arith) l.gone g.above_floor;
      rounds = sym (append-nil l.gone);
      earlier_above = g.above_floor;
      round_most = tt;
    }

pub agrees_more : (start s : State) (l : Ledger) (move : Move s) → keeps (heard s move) ≡ true → Agrees start s l → Agrees start (after s move) (noted l (heard s move))
agrees_more start s l refusing kept g = absurd (false≢true kept)
agrees_more start s l (enrolling a h) kept g = enrols_more start s l a h g
agrees_more start s l (beginning h) kept g = begins_more start s l h g
agrees_more start s l (exiting i price h) kept g = exits_more start s l i price h g
agrees_more start s l (serving i years h) kept g = serves_more start s l i years h g
agrees_more start s l (backing h) kept g = absurd (false≢true kept)
agrees_more start s l (shutting h) kept g = shuts_more start s l h g
agrees_more start s l (settling h) kept g = settles_more start s l h g
agrees_more start s l (going_on h) kept g = goes_on_more start s l h g

-- an auction just opened
pub agrees_first : (number top spread threshold : ℕ) (m : Meaning) (ahead : Leaving → Leaving → Bool) → Agrees (opened number top spread threshold m ahead) (opened number top spread threshold m ahead) no_ledger
agrees_first number top spread threshold m ahead =
    record {
      spread_stays = refl;
      curve_stays = refl;
      ahead_stays = refl;
      top_most = omega arith;
      begun = (refl, refl, refl);
      floors = omega arith;
      count = refl;
      each_unit = λ n lt. absurd (omega arith);
      large = tt;
      total = refl;
      most = omega arith;
      accounts = refl;
      never_more = tt;
      out = tt;
      above_floor = tt;
      rounds = refl;
      earlier_above = tt;
      round_most = tt;
    }

pub agrees : (number top spread threshold : ℕ) (m : Meaning) (ahead : Leaving → Leaving → Bool) (kept : List Turn) → Replays (opened number top spread threshold m ahead) kept → Agrees (opened number top spread threshold m ahead) (replayed (opened number top spread threshold m ahead) kept) (ledger kept)
agrees number top spread threshold m ahead =
    let start : State = opened number top spread threshold m ahead in
    along start (Agrees start) (agrees_first number top spread threshold m ahead) (agrees_more start)
