-- The ROUND lines: the rounds are counted from 1, and the cap of each is the floor of the one before it.
use Rattle.std.proofs.Common.{◌≡◌, ℕ, ◌+◌, ◌-◌, Bool, true, false, List, [], ◌∷◌, ◌++◌, sym, refl, ap, ◌∙◌, subst, arith}
use Rattle.std.specs.List.{flat_map}
use Rattle.auction.specs.declared.calls.Figures.{Figures}
use Rattle.auction.specs.declared.clocks.Stage.{Stage}
use Rattle.auction.specs.declared.clocks.Stage.TheVariants.{Enrolling, Open, Shut, Settled}
use Rattle.auction.specs.History.{Saying, refused, enrols, opens, exits, serves, steps_back, closes, figures_in, played, closings, floor_after}
use Rattle.auction.specs.Reading.{settlement_of}
use Rattle.auction.specs.Rolls.{roll_of}
use Rattle.auction.specs.State.{State, floor_of}
use Rattle.auction.specs.Steps.{step, figures_of}
use Rattle.auction.proofs.Moves.{Move, refusing, enrolling, beginning, exiting, serving, backing, shutting, settling, going_on, after, heard, moved}
use Rattle.listing.specs.declared.line.Line.{Line}
use Rattle.listing.specs.declared.line.Line.TheVariants.{Round}
use Rattle.rehearsal.specs.Events.{Event, made, faulted, unsettled}
use Rattle.rehearsal.specs.Listing.{round_line, lines_from}
use Rattle.rehearsal.specs.Market.{calls_in, round_in, round_lines}
use Rattle.rehearsal.proofs.LinkedEvents.{Linked}
use Rattle.rehearsal.proofs.LinkedLines.{no_award, said_lines, made_lines}

-- how many Closes were accepted, after one more call
abbrev closes_after : ℕ → Saying → ℕ
closes_after n refused = n
closes_after n (enrols a) = n
closes_after n opens = n
closes_after n (exits i price) = n
closes_after n (serves i years) = n
closes_after n steps_back = n
closes_after n (closes f settled) = n + 1

-- the round and its cap after n accepted Closes, from the cap of Open; a settled auction has no further round
module _ (top spread : ℕ) where
  abbrev CountedAt : ℕ → Stage → ℕ → ℕ → Type 0
  CountedAt n Enrolling round high = (n ≡ 0) × (high ≡ top)
  CountedAt n Open round high = (round ≡ n + 1) × (high ≡ floor_after top spread n)
  CountedAt n Shut round high = (round ≡ n) × (high - spread ≡ floor_after top spread n)
  CountedAt n Settled round high = Unit {0}

  pub record Counted (n : ℕ) (s : State) : Type 0 where
    pub spread_is : s.spread ≡ spread
    pub round_is : CountedAt n s.stage s.round s.top

  pub counted_opened : (s : State) → s.stage ≡ Enrolling → s.top ≡ top → s.spread ≡ spread → Counted 0 s
  counted_opened s e high wide =
      record { spread_is = wide; round_is = subst (λ (g : Stage). CountedAt 0 g s.round s.top) (sym e) (refl, high) }

  in_stage : (n : ℕ) (s : State) (stage : Stage) → s.stage ≡ stage → Counted n s → CountedAt n stage s.round s.top
  in_stage n s stage e h = subst (λ (g : Stage). CountedAt n g s.round s.top) e h.round_is

  floor_next : (n high wide : ℕ) → high ≡ floor_after top spread n → wide ≡ spread → high - wide ≡ floor_after top spread (n + 1)
  floor_next n high wide is same = ap (λ (w : ℕ). high - w) same ∙ omega arith

  counted_after : (n : ℕ) (s : State) (move : Move s) → Counted n s → Counted (closes_after n (heard s move)) (after s move)
  counted_after n s refusing h = h
  counted_after n s (enrolling a k) h = record { spread_is = h.spread_is; round_is = h.round_is }
  counted_after n s (beginning k) h =
      let start = in_stage n s Enrolling k h in
      record { spread_is = h.spread_is; round_is = (omega (arith, start.0), start.1 ∙ sym (ap (floor_after top spread) start.0 ∙ omega arith)) }
  counted_after n s (exiting i price k) h = record { spread_is = h.spread_is; round_is = h.round_is }
  counted_after n s (serving i years k) h = record { spread_is = h.spread_is; round_is = h.round_is }
  counted_after n s (backing k) h = record { spread_is = h.spread_is; round_is = h.round_is }
  counted_after n s (shutting k) h =
      let now = in_stage n s Open k.stage_is h in
      record { spread_is = h.spread_is; round_is = (now.0, floor_next n s.top spread now.1 refl) }
  counted_after n s (settling k) h = record { spread_is = h.spread_is; round_is = tt }
  counted_after n s (going_on k) h =
      let last = in_stage n s Shut k h in
      record { spread_is = h.spread_is; round_is = (ap (λ (r : ℕ). r + 1) last.0, ap (λ (w : ℕ). s.top - w) h.spread_is ∙ last.1) }

  -- the line of a round that is open
  line_counted : (n : ℕ) (s : State) (f : Figures) → s.stage ≡ Open → Counted n s → round_line s f ≡ Round (n + 1) (floor_after top spread n) (floor_after top spread (n + 1)) f.capacity_in f.demand
  line_counted n s f e h =
      let now = in_stage n s Open e h in
      let round_is : s.round ≡ n + 1 = now.0 in
      let top-is : s.top ≡ floor_after top spread n = now.1 in
      let floor-is : floor_of s ≡ floor_after top spread (n + 1) = floor_next n s.top s.spread top-is h.spread_is in
      cc

  -- the line of a Close, with what follows it
  close_counted : (n : ℕ) (s t : State) (settled : Bool) (fs : List Figures) → s.stage ≡ Open → Counted n s → flat_map round_in (said_lines s t (closes (figures_of s) settled)) ++ round_lines top spread (n + 1) fs ≡ round_lines top spread n (figures_of s ∷ fs)
  close_counted n s t true fs e h =
      ap (λ (lines : List Line). (round_line s (figures_of s) ∷ lines) ++ round_lines top spread (n + 1) fs) (no_award round_in (λ row. refl) (roll_of t (settlement_of t)))
      ∙ ap (λ (line : Line). line ∷ round_lines top spread (n + 1) fs) (line_counted n s (figures_of s) e h)
  close_counted n s t false fs e h = ap (λ (line : Line). line ∷ round_lines top spread (n + 1) fs) (line_counted n s (figures_of s) e h)

  move_counted : (n : ℕ) (s t : State) (move : Move s) (fs : List Figures) → Counted n s → flat_map round_in (said_lines s t (heard s move)) ++ round_lines top spread (closes_after n (heard s move)) fs ≡ round_lines top spread n (figures_in (heard s move) ++ fs)
  move_counted n s t refusing fs h = refl
  move_counted n s t (enrolling a k) fs h = refl
  move_counted n s t (beginning k) fs h = refl
  move_counted n s t (exiting i price k) fs h = refl
  move_counted n s t (serving i years k) fs h = refl
  move_counted n s t (backing k) fs h = refl
  move_counted n s t (shutting k) fs h = close_counted n s t false fs k.stage_is h
  move_counted n s t (settling k) fs h = close_counted n s t true fs k.stage_is h
  move_counted n s t (going_on k) fs h = refl

  pub linked_rounds : (es : List Event) (n : ℕ) (s t : State) → Linked s es t → Counted n s → flat_map round_in (lines_from es) ≡ round_lines top spread n (closings (played s (calls_in es)))
  linked_rounds [] n s t h k = refl
  linked_rounds (made u at c ∷ es) n s t h k =
      let m = moved s c in
      let fs : List Figures = closings (played (step s c).0 (calls_in es)) in
      let next : Counted (closes_after n (heard s m.move)) (step s c).0 = subst (Counted (closes_after n (heard s m.move))) (sym m.state_is) (counted_after n s m.move k) in
      made_lines round_in (λ n at. refl) s u at c es h.0
      ∙ ap (λ (x : Saying). flat_map round_in (said_lines s (step s c).0 x) ++ flat_map round_in (lines_from es)) m.saying_is
      ∙ ap (λ (lines : List Line). flat_map round_in (said_lines s (step s c).0 (heard s m.move)) ++ lines) (linked_rounds es (closes_after n (heard s m.move)) (step s c).0 t h.1 next)
      ∙ move_counted n s (step s c).0 m.move fs k
      ∙ ap (λ (x : Saying). round_lines top spread n (figures_in x ++ fs)) (sym m.saying_is)
  linked_rounds (faulted layer m at ∷ es) n s t h k = linked_rounds es n s t h k
  linked_rounds (unsettled ∷ es) n s t h k = linked_rounds es n s t h k
