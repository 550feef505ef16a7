-- Making the calls of a list of turns one by one, and filling in their answers, plays the calls.
use Rattle.std.proofs.Common.{◌≡◌, ℕ, ◌+◌, ◌<◌, ◌≤◌, List, [], ◌∷◌, ◌++◌, length, get_or, take, drop, set, sym, refl, ap, ◌∙◌, append_assoc, append-nil, arith, take_all}
use Rattle.std.proofs.lemmas.List.{drop_more, drop_all, take_more_set, drop-set-lt}
use Rattle.auction.specs.declared.calls.Call.{Call}
use Rattle.auction.specs.declared.calls.Turn.{Turn}
use Rattle.auction.specs.History.{turn, played, ended}
use Rattle.auction.specs.Promise.{calls_of}
use Rattle.auction.specs.State.{State}
use Rattle.auction.specs.Steps.{step}

-- from the state `start` the first i turns were made, which led to the state s
pub record Playing (start : State) (calls : List Call) (s : State) (turns : List Turn) (i : ℕ) : Type 0 where
  pub so_far : take i turns ++ played s (calls_of (drop i turns)) ≡ played start calls
  pub on : ended s (calls_of (drop i turns)) ≡ ended start calls

pub playing_start : (start : State) (turns : List Turn) → Playing start (calls_of turns) start turns 0
playing_start start turns = record { so_far = refl; on = refl }

module _ (start : State) (calls : List Call) (s t : State) (turns : List Turn) (i : ℕ) (d y : Turn) (lt : i < length turns) where
  pub playing_next : Playing start calls s turns i → t ≡ (step s (get_or turns i d).call).0
      → y ≡ turn (get_or turns i d).call (step s (get_or turns i d).call).1 → Playing start calls t (set turns i y) (i + 1)
  playing_next p t-is y-is =
      let call : Call = (get_or turns i d).call in
      let rest : List Turn = drop (i + 1) turns in
      let front = take_more_set turns i y lt in
      let back : drop (i + 1) (set turns i y) ≡ rest = drop-set-lt (i + 1) turns i y (omega arith) in
      let split = drop_more turns i d lt in
      let state-on = ap (λ (z : State). ended z (calls_of rest)) t-is in
      let plays : y ∷ played t (calls_of rest) ≡ played s (calls_of (get_or turns i d ∷ rest)) = cc in
      record {
        so_far =
            ap (λ (zs : List Turn). zs ++ played t (calls_of (drop (i + 1) (set turns i y)))) front
            ∙ (ap (λ (zs : List Turn). (take i turns ++ (y ∷ [])) ++ played t (calls_of zs)) back
            ∙ (append_assoc (take i turns) (y ∷ []) (played t (calls_of rest))
            ∙ (ap (λ (zs : List Turn). take i turns ++ zs) plays
            ∙ (ap (λ (zs : List Turn). take i turns ++ played s (calls_of zs)) (sym split) ∙ p.so_far))));
        on =
            ap (λ (zs : List Turn). ended t (calls_of zs)) back
            ∙ (state-on ∙ (ap (λ (zs : List Turn). ended s (calls_of zs)) (sym split) ∙ p.on));
      }

pub all_played : (start : State) (calls : List Call) (s : State) (turns : List Turn) (i : ℕ) → Playing start calls s turns i → length turns ≤ i
    → (turns ≡ played start calls) × (s ≡ ended start calls)
all_played start calls s turns i p le =
    let none = drop_all i turns le in
    let all = take_all i turns le in (
      sym (append-nil turns) ∙ (ap (λ (zs : List Turn). zs ++ []) (sym all) ∙ (ap (λ (zs : List Turn). take i turns ++ played s (calls_of zs)) (sym none) ∙ p.so_far)),
      ap (λ (zs : List Turn). ended s (calls_of zs)) (sym none) ∙ p.on,
    )
