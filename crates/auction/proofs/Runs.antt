-- A list of calls as a history, and one more call at its end.
use Rattle.std.proofs.Common.{◌≡◌, ℕ, ◌+◌, ◌<◌, List, [], ◌∷◌, ◌++◌, length, get_or, take, refl, ap, ◌∙◌}
use Rattle.std.proofs.lemmas.List.{map_more}
use Rattle.auction.specs.declared.calls.Call.{Call}
use Rattle.auction.specs.declared.calls.Turn.{Turn}
use Rattle.auction.specs.History.{turn, played, ended}
use Rattle.auction.specs.Promise.{calls_of}
use Rattle.auction.specs.State.{State}
use Rattle.auction.specs.Steps.{step}

pub played_calls : (s : State) (cs : List Call) → calls_of (played s cs) ≡ cs
played_calls s [] = refl
played_calls s (c ∷ cs) = ap (λ (calls : List Call). c ∷ calls) (played_calls (step s c).0 cs)

pub ended_push : (s : State) (cs : List Call) (c : Call) → ended s (cs ++ c ∷ []) ≡ (step (ended s cs) c).0
ended_push s [] c = refl
ended_push s (d ∷ cs) c = ended_push (step s d).0 cs c

pub played_push : (s : State) (cs : List Call) (c : Call) → played s (cs ++ c ∷ []) ≡ played s cs ++ turn c (step (ended s cs) c).1 ∷ []
played_push s [] c = refl
played_push s (d ∷ cs) c = ap (λ (h : List Turn). turn d (step s d).1 ∷ h) (played_push (step s d).0 cs c)

-- the same for the turns of a list, one by one

pub ended_more : (s : State) (turns : List Turn) (i : ℕ) (d : Turn) → i < length turns → ended s (calls_of (take (i + 1) turns)) ≡ (step (ended s (calls_of (take i turns))) (get_or turns i d).call).0
ended_more s turns i d lt =
    ap (ended s) (map_more (λ t. t.call) turns i d lt) ∙ ended_push s (calls_of (take i turns)) (get_or turns i d).call

pub played_more : (s : State) (turns : List Turn) (i : ℕ) (d : Turn) → i < length turns → played s (calls_of (take (i + 1) turns)) ≡ played s (calls_of (take i turns)) ++ turn (get_or turns i d).call (step (ended s (calls_of (take i turns))) (get_or turns i d).call).1 ∷ []
played_more s turns i d lt =
    ap (played s) (map_more (λ t. t.call) turns i d lt) ∙ played_push s (calls_of (take i turns)) (get_or turns i d).call
