-- What happens in a run is calls made one after the other, each on the auction that the one before it left.
use Rattle.std.proofs.Common.{◌≡◌, ℕ, List, [], ◌∷◌, ◌++◌, Some, None, Ok, Err, Option, Result, sym, refl, subst}
use Rattle.auction.specs.declared.calls.Call.{Call}
use Rattle.auction.specs.declared.clocks.Stage.{Stage}
use Rattle.auction.specs.declared.clocks.Stage.TheVariants.{Enrolling, Open, Shut, Settled}
use Rattle.auction.specs.declared.clocks.Stamp.{Stamp}
use Rattle.auction.specs.History.{ended}
use Rattle.auction.specs.State.{State}
use Rattle.auction.specs.Steps.{step}
use Rattle.bidfile.specs.Found.{Found, handed}
use Rattle.bidfile.specs.Items.{Item}
use Rattle.rehearsal.specs.Events.{Event, made, faulted, unsettled, own_call, told, begin_in, begin_for, calls_for, next_in, heard, unless_settled, left, following, events}
use Rattle.rehearsal.specs.Market.{calls_in}
use Rattle.rehearsal.specs.Progress.{Progress, going, due}

-- the first call is made on the auction s, each other one on what the one before it left, and the last leaves t
abbrev pub Linked : State → List Event → State → Type 0
Linked s [] t = s ≡ t
Linked s (made u at c ∷ es) t = (s ≡ u) × Linked (step s c).0 es t
Linked s (faulted layer n at ∷ es) t = Linked s es t
Linked s (unsettled ∷ es) t = Linked s es t

pub linked_end : (es : List Event) (s t : State) → Linked s es t → ended s (calls_in es) ≡ t
linked_end [] s t h = h
linked_end (made u at c ∷ es) s t h = linked_end es (step s c).0 t h.1
linked_end (faulted layer n at ∷ es) s t h = linked_end es s t h
linked_end (unsettled ∷ es) s t h = linked_end es s t h

pub linked_then : (es fs : List Event) (s t u : State) → Linked s es t → Linked t fs u → Linked s (es ++ fs) u
linked_then [] fs s t u h k = subst (λ (z : State). Linked z fs u) (sym h) k
linked_then (made v at c ∷ es) fs s t u h k = (h.0, linked_then es fs (step s c).0 t u h.1 k)
linked_then (faulted layer n at ∷ es) fs s t u h k = linked_then es fs s t u h k
linked_then (unsettled ∷ es) fs s t u h k = linked_then es fs s t u h k

pub told_linked : (at : ℕ) (s : State) (cs : List (Stamp → Call)) → Linked s (told at s cs).0 (told at s cs).1
told_linked at s [] = refl
told_linked at s (c ∷ cs) = (refl, told_linked at (step s (own_call s c)).0 cs)

pub heard_linked : (at : ℕ) (s : State) (item : Item) → Linked s (heard at s item).0 (heard at s item).1
heard_linked at s item =
    let begins : List (Stamp → Call) = begin_for item s.stage in
    let t : State = (told at s begins).1 in
    let u : State = (told at t (calls_for item)).1 in
    linked_then ((told at s begins).0 ++ (told at t (calls_for item)).0) (told at u (next_in u.stage)).0 s u (told at u (next_in u.stage)).1
    (linked_then (told at s begins).0 (told at t (calls_for item)).0 s t u (told_linked at s begins) (told_linked at t (calls_for item)))
    (told_linked at u (next_in u.stage))

unless_linked : (stage : Stage) (t : State) → Linked t (unless_settled stage) t
unless_linked Enrolling t = refl
unless_linked Open t = refl
unless_linked Shut t = refl
unless_linked Settled t = refl

-- events that start from an auction, and leave some auction
pub record From (s : State) (es : List Event) : Type 0 where
  pub leaves : State
  pub linked : Linked s es leaves

pub no_events : (s : State) → From s []
no_events s = record { leaves = s; linked = refl }

pub left_from : (s : State) → From s (left s)
left_from s =
    let begins : List (Stamp → Call) = begin_in s.stage in
    let t : State = (told 0 s begins).1 in
    record {
      leaves = t;
      linked = linked_then (told 0 s begins).0 (unless_settled s.stage) s t t (told_linked 0 s begins) (unless_linked s.stage t);
    }

pub heard_then : (at : ℕ) (s : State) (item : Item) (later : List Event) → From (heard at s item).1 later → From s ((heard at s item).0 ++ later)
heard_then at s item later f =
    record {
      leaves = f.leaves;
      linked = linked_then (heard at s item).0 later s (heard at s item).1 f.leaves (heard_linked at s item) f.linked;
    }

-- an auction that is open, whatever the reader hands out
following_from : (s : State) (r : Result (Option (ℕ × Item)) (ℕ × ℕ)) (later : Progress → List Event) → ((t : State) → From t (later (going t))) → From s (following (going s) r later)
following_from s (Err e) later h = record { leaves = s; linked = refl }
following_from s (Ok None) later h = left_from s
following_from s (Ok (Some x)) later h = heard_then x.0 s x.1 (later (going (heard x.0 s x.1).1)) (h (heard x.0 s x.1).1)

pub going_from : (fs : List Found) (s : State) → From s (events (going s) fs)
going_from [] s = following_from s (handed (due (going s)) []) (λ q. []) no_events
going_from (f ∷ fs) s = following_from s (handed (due (going s)) (f ∷ fs)) (λ q. events q fs) (going_from fs)
