-- What Settlement, Award and Roll read of an auction. Assumes nothing.
use Rattle.std.specs.Prelude.{◌≡◌, ℕ, List, [], ◌∷◌, length, Some, None, Ok, Err, Result, nat_lt}
use Rattle.auction.specs.Awards.{award_of}
use Rattle.auction.specs.declared.clocks.Stage.TheVariants.{Settled}
use Rattle.auction.specs.declared.clocks.Stamp.{Stamp}
use Rattle.auction.specs.declared.refusal.Refusal.{Refusal}
use Rattle.auction.specs.State.{State, floor_of, priced}
use Rattle.auction.specs.Steps.{auction_question, own_clock}
use Rattle.book.specs.Asked.{asked}
use Rattle.clearing.specs.declared.ground.Ground.TheVariants.{AllFit}
use Rattle.clearing.specs.declared.settlement.Settlement.{Settlement}
use Rattle.clearing.specs.Finding.{settlement_at}
use Rattle.curve.specs.Questions.{Question, first_no}

-- a result, with the number of the question in the place of the refusal
abbrev pub numbered : {A : Type 0} → Result A Refusal → Result A ℕ
numbered (Ok a) = Ok a
numbered (Err e) = Err (auction_question e)

-- the number of the first "no", or what is read
abbrev pub read_out : {A : Type 0} → List Question → A → Result A ℕ
read_out qs a = elim (first_no qs) [ None ↦ Ok a | Some n ↦ Err n ]

-- the settlement of a round that clears; for one that does not, which no settled auction has, the floor and no exit
abbrev pub settlement_of : State → Settlement
settlement_of s = elim (priced s) [ None ↦ settlement_at (floor_of s) AllFit 0 | Some settled ↦ settled ]

abbrev pub settlement_read : State → Stamp → Result Settlement ℕ
settlement_read s c = read_out (own_clock s Settled c ∷ []) (settlement_of s)

abbrev pub award_questions : State → Stamp → ℕ → List Question
award_questions s c i = own_clock s Settled c ∷ asked 15 (nat_lt i (length s.book.units)) ∷ []

abbrev pub award_read : State → Stamp → ℕ → Result (ℕ × ℕ) ℕ
award_read s c i = read_out (award_questions s c i) (award_of s (settlement_of s) i)

-- if it is settled, its round clears, and that is its settlement
abbrev pub SettledPriced : State → Type 0
SettledPriced s = s.stage ≡ Settled → priced s ≡ Some (settlement_of s)
