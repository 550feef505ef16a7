-- A moment of a history: what came before it is the history of the first calls, and what held then holds of it.
use Rattle.std.proofs.Common.{◌≡◌, ℕ, Bool, true, false, List, [], ◌∷◌, ◌++◌, reverse, sym, refl, ap, ◌∙◌, arith}
use Rattle.std.specs.List.{flat_map}
use Rattle.std.proofs.lemmas.List.{append-nil, append_assoc}
use Rattle.std.proofs.lemmas.Bool.{cond_both, false≢true}
use Rattle.auction.specs.declared.calls.Call.{Call}
use Rattle.auction.specs.declared.calls.Figures.{Figures}
use Rattle.auction.specs.declared.calls.Turn.{Turn}
use Rattle.auction.specs.declared.clocks.Stage.TheVariants.{Open, Settled}
use Rattle.auction.specs.History.{Saying, refused, enrols, opens, exits, serves, steps_back, closes, saying, turn, played, ended, kept_latest_first, is_entry, less_entry, keep, kept_on, application_in, figures_in, enrolments, closings}
use Rattle.auction.specs.State.{State, floor_of, in_of}
use Rattle.auction.specs.Steps.{step, moved_to, figures_of}
use Rattle.auction.proofs.Ledgers.{ledger, joined_latest, enrolled_said, closed_said}
use Rattle.auction.proofs.Moves.{Move, refusing, enrolling, beginning, exiting, serving, backing, shutting, settling, going_on, after, heard}
use Rattle.curve.specs.Words.{within}

pub record Moment (s : State) (calls : List Call) (before later : List Turn) (t : Turn) : Type 0 where
  pub first : List Call
  pub call : Call
  pub rest : List Call
  pub before_is : before ≡ played s first
  pub turn_is : t ≡ turn call (step (ended s first) call).1
  pub later_is : later ≡ played (step (ended s first) call).0 rest
  pub end_is : ended s calls ≡ ended (step (ended s first) call).0 rest

pub moment : (s : State) (calls : List Call) (before later : List Turn) (t : Turn) → played s calls ≡ before ++ t ∷ later → Moment s calls before later t
moment s [] [] later t e = let z : ◌≡◌ {A = ℕ} 0 1 = cc in absurd (omega arith)
moment s [] (b ∷ before) later t e = let z : ◌≡◌ {A = ℕ} 0 1 = cc in absurd (omega arith)
moment s (c ∷ calls) [] later t e =
    record { first = []; call = c; rest = calls; before_is = refl; turn_is = cc; later_is = cc; end_is = refl }
moment s (c ∷ calls) (b ∷ before) later t e =
    let head : b ≡ turn c (step s c).1 = cc in
    let tail : played (step s c).0 calls ≡ before ++ t ∷ later = cc in
    let m = moment (step s c).0 calls before later t tail in
    record {
      first = c ∷ m.first;
      call = m.call;
      rest = m.rest;
      before_is = let e' = m.before_is in cc;
      turn_is = m.turn_is;
      later_is = m.later_is;
      end_is = m.end_is;
    }

-- what a history says of enrolments and Closes, its kept turns say

module _ {A : Type 0} (f : Saying → List A) (of-refused : f refused ≡ []) (of-back : f steps_back ≡ []) (of_entry : (x : Saying) → is_entry x ≡ true → f x ≡ []) where
  less_says : (kept : List Turn) → flat_map (λ t. f (saying t)) (reverse (less_entry kept)) ≡ flat_map (λ t. f (saying t)) (reverse kept)
  less_says [] = refl
  less_says (t ∷ kept) =
      cond_both (is_entry (saying t)) kept (t ∷ less_entry kept) (λ (k : List Turn). flat_map (λ t. f (saying t)) (reverse k) ≡ flat_map (λ t. f (saying t)) (reverse (t ∷ kept)))
      (λ e. sym (joined_latest (λ t. f (saying t)) t kept ∙ ap (λ l. flat_map (λ t. f (saying t)) (reverse kept) ++ l) (of_entry (saying t) e) ∙ append-nil _))
      (λ e. joined_latest (λ t. f (saying t)) t (less_entry kept) ∙ ap (λ l. l ++ f (saying t)) (less_says kept) ∙ sym (joined_latest (λ t. f (saying t)) t kept))

  keep_latest : (kept : List Turn) (t : Turn) (x : Saying) → saying t ≡ x → flat_map (λ t. f (saying t)) (reverse (t ∷ kept)) ≡ flat_map (λ t. f (saying t)) (reverse kept) ++ f x
  keep_latest kept t x e = joined_latest (λ t. f (saying t)) t kept ∙ ap (λ (y : Saying). flat_map (λ t. f (saying t)) (reverse kept) ++ f y) e

  keep_says : (kept : List Turn) (t : Turn) (x : Saying) → saying t ≡ x → flat_map (λ t. f (saying t)) (reverse (keep kept t x)) ≡ flat_map (λ t. f (saying t)) (reverse kept) ++ f x
  keep_says kept t refused e = sym (ap (λ l. flat_map (λ t. f (saying t)) (reverse kept) ++ l) of-refused ∙ append-nil _)
  keep_says kept t (enrols a) e = keep_latest kept t _ e
  keep_says kept t opens e = keep_latest kept t _ e
  keep_says kept t (exits i price) e = keep_latest kept t _ e
  keep_says kept t (serves i years) e = keep_latest kept t _ e
  keep_says kept t steps_back e = less_says kept ∙ sym (ap (λ l. flat_map (λ t. f (saying t)) (reverse kept) ++ l) of-back ∙ append-nil _)
  keep_says kept t (closes g settled) e = keep_latest kept t _ e

  kept_says : (kept h : List Turn) → flat_map (λ t. f (saying t)) (reverse (kept_on kept h)) ≡ flat_map (λ t. f (saying t)) (reverse kept) ++ flat_map (λ t. f (saying t)) h
  kept_says kept [] = sym (append-nil _)
  kept_says kept (t ∷ h) =
      kept_says (keep kept t (saying t)) h
      ∙ ap (λ l. l ++ flat_map (λ t. f (saying t)) h) (keep_says kept t (saying t) refl)
      ∙ append_assoc (flat_map (λ t. f (saying t)) (reverse kept)) (f (saying t)) (flat_map (λ t. f (saying t)) h)

entry_enrols : (x : Saying) → is_entry x ≡ true → application_in x ≡ []
entry_enrols refused e = refl
entry_enrols (enrols a) e = absurd (false≢true e)
entry_enrols opens e = refl
entry_enrols (exits i price) e = refl
entry_enrols (serves i years) e = refl
entry_enrols steps_back e = refl
entry_enrols (closes f settled) e = refl

entry_closes : (x : Saying) → is_entry x ≡ true → figures_in x ≡ []
entry_closes refused e = refl
entry_closes (enrols a) e = refl
entry_closes opens e = refl
entry_closes (exits i price) e = refl
entry_closes (serves i years) e = refl
entry_closes steps_back e = refl
entry_closes (closes f settled) e = absurd (false≢true e)

pub enrolments_kept : (h : List Turn) → enrolments h ≡ (ledger (kept_latest_first h)).enrolled
enrolments_kept h = sym (kept_says application_in refl refl entry_enrols [] h) ∙ enrolled_said (kept_latest_first h)

pub closings_kept : (h : List Turn) → closings h ≡ (ledger (kept_latest_first h)).closed
closings_kept h = sym (kept_says figures_in refl refl entry_closes [] h) ∙ closed_said (kept_latest_first h)

-- an accepted Close, from what it says

pub record Closing (s t : State) (f : Figures) (settled : Bool) : Type 0 where
  pub figures_are : f ≡ figures_of s
  pub stage_is : s.stage ≡ Open
  pub decided : within s.curve (floor_of s) (in_of s) ≡ settled
  pub if_settled : settled ≡ true → t ≡ moved_to s Settled s.round s.top s.book

other_saying : (s t : State) (x : Saying) (f : Figures) (settled : Bool) → ◌≡◌ {A = ℕ} 0 1 → Closing s t f settled
other_saying s t x f settled z = absurd (omega arith)

pub closing_of : (s : State) (move : Move s) (f : Figures) (settled : Bool) → heard s move ≡ closes f settled → Closing s (after s move) f settled
closing_of s refusing f settled e = other_saying s _ (heard s refusing) f settled (cc)
closing_of s (enrolling a h) f settled e = other_saying s _ opens f settled (cc)
closing_of s (beginning h) f settled e = other_saying s _ opens f settled (cc)
closing_of s (exiting i price h) f settled e = other_saying s _ opens f settled (cc)
closing_of s (serving i years h) f settled e = other_saying s _ opens f settled (cc)
closing_of s (backing h) f settled e = other_saying s _ opens f settled (cc)
closing_of s (shutting h) f settled e =
    let is : false ≡ settled = cc in
    record { figures_are = cc; stage_is = h.stage_is; decided = h.decided ∙ is; if_settled = λ t. absurd (false≢true (is ∙ t)) }
closing_of s (settling h) f settled e =
    let is : true ≡ settled = cc in
    record { figures_are = cc; stage_is = h.stage_is; decided = h.decided ∙ is; if_settled = λ t. refl }
closing_of s (going_on h) f settled e = other_saying s _ opens f settled (cc)
