-- The state after any list of calls is that of the kept calls made from the start: refusals change nothing, and a step back takes
-- back the entry that was kept last.
use Rattle.std.proofs.Common.{◌≡◌, ℕ, ◌<◌, Bool, true, false, List, [], ◌∷◌, ◌++◌, length, get_or, set, sym, refl, ap, ◌∙◌, subst, arith}
use Rattle.std.proofs.lemmas.List.{get_or-set_same, set-set, set-get_or, append-nil, append_assoc}
use Rattle.std.proofs.lemmas.Bool.{false≢true, cond-true}
use Rattle.auction.specs.declared.calls.Call.{Call}
use Rattle.auction.specs.declared.calls.Turn.{Turn}
use Rattle.auction.specs.declared.clocks.Stage.{Stage}
use Rattle.auction.specs.declared.clocks.Stage.TheVariants.{Enrolling, Open, Shut, Settled}
use Rattle.auction.specs.State.{State}
use Rattle.auction.specs.Steps.{step, with_book}
use Rattle.auction.specs.History.{Saying, refused, enrols, opens, exits, serves, steps_back, closes, says, saying, turn, is_entry, less_entry, keep, kept_on, kept_latest_first, played, ended}
use Rattle.auction.proofs.Moves.{Move, refusing, enrolling, beginning, exiting, serving, backing, shutting, settling, going_on, after, heard, moved, Backs}
use Rattle.book.specs.declared.entry.Entry.{Entry}
use Rattle.book.specs.declared.unit.Standing.{Standing}
use Rattle.book.specs.declared.unit.Unit.{Unit as Row}
use Rattle.book.specs.Books.{Books, no_unit, stood, with_exit, with_years, stepped_back}

abbrev pub keeps : Saying → Bool
keeps refused = false
keeps (enrols a) = true
keeps opens = true
keeps (exits i price) = true
keeps (serves i years) = true
keeps steps_back = false
keeps (closes f settled) = true

-- kept turns, latest first, made from a state: the state then, and that each call is answered as it was
abbrev pub replayed : State → List Turn → State
replayed s [] = s
replayed s (t ∷ kept) = (step (replayed s kept) t.call).0

abbrev pub Replays : State → List Turn → Type 0
Replays s [] = Unit {0}
Replays s (t ∷ kept) = Replays s kept × (t.answer ≡ (step (replayed s kept) t.call).1) × (keeps (saying t) ≡ true)

-- before a round opens no entry stands

abbrev pub QuietAt : Stage → List Entry → Type 0
QuietAt Enrolling entries = entries ≡ []
QuietAt Open entries = Unit {0}
QuietAt Shut entries = entries ≡ []
QuietAt Settled entries = Unit {0}

abbrev pub Quiet : State → Type 0
Quiet s = QuietAt s.stage s.book.entries

open_quiet : (stage : Stage) (entries : List Entry) → stage ≡ Open → QuietAt stage entries
open_quiet stage entries e = subst (λ (g : Stage). QuietAt g entries) (sym e) tt

pub quiet_after : (s : State) (move : Move s) → Quiet s → Quiet (after s move)
quiet_after s refusing q = q
quiet_after s (enrolling a h) q = q
quiet_after s (beginning h) q = tt
quiet_after s (exiting i price h) q = open_quiet _ _ h.stage_is
quiet_after s (serving i years h) q = open_quiet _ _ h.stage_is
quiet_after s (backing h) q = open_quiet _ _ h.stage_is
quiet_after s (shutting h) q = refl
quiet_after s (settling h) q = tt
quiet_after s (going_on h) q = tt

pub quiet_replayed : (s : State) → Quiet s → (kept : List Turn) → Quiet (replayed s kept)
quiet_replayed s q [] = q
quiet_replayed s q (t ∷ kept) =
    let m = moved (replayed s kept) t.call in
    subst Quiet (sym m.state_is) (quiet_after (replayed s kept) m.move (quiet_replayed s q kept))

-- an entry followed by its step back is no change

unit_restored : (us : List Row) (i : ℕ) (s : Standing) → i < length us → set (set us i (stood (get_or us i no_unit) s)) i (stood (get_or (set us i (stood (get_or us i no_unit) s)) i no_unit) (get_or us i no_unit).standing) ≡ us
unit_restored us i s here =
    let u : Row = stood (get_or us i no_unit) s in
    let same : get_or (set us i u) i no_unit ≡ u = get_or-set_same us i u no_unit here in
    ap (λ (v : Row). set (set us i u) i (stood v (get_or us i no_unit).standing)) same ∙ set-set us i u (get_or us i no_unit) ∙ set-get_or us i no_unit

exit_undone : (b : Books) (i price : ℕ) → i < length b.units → stepped_back (with_exit b i price) ≡ b
exit_undone b i price here =
    ap (λ (us : List Row). record { units = us; entries = b.entries }) (unit_restored b.units i _ here)

years_undone : (b : Books) (i years : ℕ) → i < length b.units → stepped_back (with_years b i years) ≡ b
years_undone b i years here =
    ap (λ (us : List Row). record { units = us; entries = b.entries }) (unit_restored b.units i _ here)

-- a step back after a move that was kept: that move was an entry, and is undone
abbrev Undone : (s : State) (move : Move s) → Type 0
Undone s move = (is_entry (heard s move) ≡ true) × (with_book (after s move) (stepped_back (after s move).book) ≡ s)

not_open : (g : Stage) {A : Type 0} → g ≡ Open → g ≡ Enrolling → A
not_open g o e = let z : ◌≡◌ {A = ℕ} 0 1 = cc in absurd (omega arith)

none_stand : (es : List Entry) {A : Type 0} → es ≡ [] → 0 < length es → A
none_stand es e some = let z : length es ≡ 0 = ap length e in absurd (omega arith)

pub enrolling_quiet : (s : State) → Quiet s → s.stage ≡ Enrolling → s.book.entries ≡ []
enrolling_quiet s q e = subst (λ (g : Stage). QuietAt g s.book.entries) e q

pub shut_quiet : (s : State) → Quiet s → s.stage ≡ Shut → s.book.entries ≡ []
shut_quiet s q e = subst (λ (g : Stage). QuietAt g s.book.entries) e q

move_undone : (s : State) (move : Move s) → Quiet s → keeps (heard s move) ≡ true → Backs (after s move) → Undone s move
move_undone s refusing q kept b = absurd (false≢true kept)
move_undone s (enrolling a h) q kept b = not_open _ b.stage_is h.stage_is
move_undone s (beginning h) q kept b = none_stand _ (enrolling_quiet s q h) b.some
move_undone s (exiting i price h) q kept b = (refl, ap (with_book s) (exit_undone s.book i price h.here))
move_undone s (serving i years h) q kept b = (refl, ap (with_book s) (years_undone s.book i years h.here))
move_undone s (backing h) q kept b = absurd (false≢true kept)
move_undone s (shutting h) q kept b = none_stand [] refl b.some
move_undone s (settling h) q kept b = let z : ◌≡◌ {A = ℕ} 0 1 = cc b.stage_is in absurd (omega arith)
move_undone s (going_on h) q kept b = none_stand _ (shut_quiet s q h) b.some

module _ (start : State) (fresh : start.stage ≡ Enrolling) (quiet : Quiet start) where
  heard_kept : (kept : List Turn) (t : Turn) → t.answer ≡ (step (replayed start kept) t.call).1 → saying t ≡ heard (replayed start kept) (moved (replayed start kept) t.call).move
  heard_kept kept t e = ap (says t.call) e ∙ (moved (replayed start kept) t.call).saying_is

  went_back_to : (kept : List Turn) → Replays start kept → Backs (replayed start kept) → (with_book (replayed start kept) (stepped_back (replayed start kept).book) ≡ replayed start (less_entry kept)) × Replays start (less_entry kept)
  went_back_to [] r b = not_open _ b.stage_is fresh
  went_back_to (t ∷ kept) r b =
      let s : State = replayed start kept in
      let m = moved s t.call in
      let said : saying t ≡ heard s m.move = heard_kept kept t r.1 in
      let u : Undone s m.move = move_undone s m.move (quiet_replayed start quiet kept) (subst (λ x. keeps x ≡ true) said r.2) (subst Backs m.state_is b) in
      let less : less_entry (t ∷ kept) ≡ kept = cond-true _ kept (t ∷ less_entry kept) (ap is_entry said ∙ u.0) in
      let same : with_book (step s t.call).0 (stepped_back (step s t.call).0.book) ≡ s = ap (λ (z : State). with_book z (stepped_back z.book)) m.state_is ∙ u.1 in
      (same ∙ ap (replayed start) (sym less), subst (Replays start) (sym less) r.0)

  -- one more call, after kept turns, with what is kept then
  abbrev GoesOn : List Turn → Call → Saying → Type 0
  GoesOn kept c x =
      ((step (replayed start kept) c).0 ≡ replayed start (keep kept (turn c (step (replayed start kept) c).1) x)) × Replays start (keep kept (turn c (step (replayed start kept) c).1) x)

  keeps_turn : (kept : List Turn) (c : Call) (x : Saying) → Replays start kept → saying (turn c (step (replayed start kept) c).1) ≡ x → keeps x ≡ true → Replays start (turn c (step (replayed start kept) c).1 ∷ kept)
  keeps_turn kept c x r said k = (r, refl, ap keeps said ∙ k)

  goes_on : (kept : List Turn) → Replays start kept → (c : Call) (move : Move (replayed start kept)) → (step (replayed start kept) c).0 ≡ after (replayed start kept) move → saying (turn c (step (replayed start kept) c).1) ≡ heard (replayed start kept) move → GoesOn kept c (heard (replayed start kept) move)
  goes_on kept r c refusing e said = (e, r)
  goes_on kept r c (enrolling a h) e said = (refl, keeps_turn kept c _ r said refl)
  goes_on kept r c (beginning h) e said = (refl, keeps_turn kept c _ r said refl)
  goes_on kept r c (exiting i price h) e said = (refl, keeps_turn kept c _ r said refl)
  goes_on kept r c (serving i years h) e said = (refl, keeps_turn kept c _ r said refl)
  goes_on kept r c (backing h) e said = let b = went_back_to kept r h in (e ∙ b.0, b.1)
  goes_on kept r c (shutting h) e said = (refl, keeps_turn kept c _ r said refl)
  goes_on kept r c (settling h) e said = (refl, keeps_turn kept c _ r said refl)
  goes_on kept r c (going_on h) e said = (refl, keeps_turn kept c _ r said refl)

  -- a state follows from a history if it is that of the kept turns
  pub record Follows (h : List Turn) (s : State) : Type 0 where
    pub is_replayed : s ≡ replayed start (kept_latest_first h)
    pub replays : Replays start (kept_latest_first h)

  pub kept_push : (kept h : List Turn) (t : Turn) → kept_on kept (h ++ t ∷ []) ≡ keep (kept_on kept h) t (saying t)
  kept_push kept [] t = refl
  kept_push kept (u ∷ h) t = kept_push (keep kept u (saying u)) h t

  pub follows_more : (h : List Turn) (s : State) (c : Call) → Follows h s → Follows (h ++ turn c (step s c).1 ∷ []) (step s c).0
  follows_more h s c f =
      let kept : List Turn = kept_latest_first h in
      let z : State = replayed start kept in
      let m = moved z c in
      let g : GoesOn kept c (heard z m.move) = goes_on kept f.replays c m.move m.state_is m.saying_is in
      let g' : GoesOn kept c (saying (turn c (step z c).1)) = subst (GoesOn kept c) (sym m.saying_is) g in
      let at-z : Follows (h ++ turn c (step z c).1 ∷ []) (step z c).0 = record { is_replayed = g'.0 ∙ ap (replayed start) (sym (kept_push [] h (turn c (step z c).1))); replays = subst (Replays start) (sym (kept_push [] h (turn c (step z c).1))) g'.1 } in
      subst (λ (y : State). Follows (h ++ turn c (step y c).1 ∷ []) (step y c).0) (sym f.is_replayed) at-z

  pub follows_on : (calls : List Call) (h : List Turn) (s : State) → Follows h s → Follows (h ++ played s calls) (ended s calls)
  follows_on [] h s f = subst (λ (l : List Turn). Follows l s) (sym (append-nil h)) f
  follows_on (c ∷ calls) h s f =
      subst (λ (l : List Turn). Follows l (ended (step s c).0 calls)) (append_assoc h (turn c (step s c).1 ∷ []) (played (step s c).0 calls))
      (follows_on calls (h ++ turn c (step s c).1 ∷ []) (step s c).0 (follows_more h s c f))

  pub follows : (calls : List Call) → Follows (played start calls) (ended start calls)
  follows calls = follows_on calls [] start (record { is_replayed = refl; replays = tt })
