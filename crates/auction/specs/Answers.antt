-- What a call of the code answers, as the model has it. Assumes nothing.
use Rattle.std.specs.Prelude.{◌≡◌, Ok, Err, Result}
use Rattle.auction.specs.declared.calls.Answer.{Answer}
use Rattle.auction.specs.declared.calls.Answer.TheVariants.{Refused, ClosedShut, ClosedSettled}
use Rattle.auction.specs.declared.calls.Figures.{Figures}
use Rattle.auction.specs.declared.clocks.Closed.{Closed}
use Rattle.auction.specs.declared.clocks.Closed.TheVariants.{Shut, Settled}
use Rattle.auction.specs.declared.refusal.Refusal.{Refusal}
use Rattle.auction.specs.Steps.{auction_question}
use Rattle.curve.specs.declared.given_back.GivenBack.{GivenBack}

-- the answer of a call that reads its clock
abbrev pub answer : {A : Type 0} → (A → Answer) → Result A Refusal → Answer
answer done (Ok a) = done a
answer done (Err e) = Refused (auction_question e)

-- the answer of a call that takes its clock
abbrev pub traded : {A K : Type 0} → (A → Answer) → Result A (GivenBack K Refusal) → Answer
traded done (Ok a) = done a
traded done (Err kept) = Refused (auction_question kept.why)

-- a refusal gives the very clock back
abbrev pub GivesBack : {A K : Type 0} → K → Result A (GivenBack K Refusal) → Type 0
GivesBack clock (Ok a) = Unit {0}
GivesBack clock (Err kept) = kept.value ≡ clock

-- the answer of a Close that was carried out
abbrev pub close_answer : Figures → Closed → Answer
close_answer f (Shut clock) = ClosedShut f clock.stamp
close_answer f (Settled clock) = ClosedSettled f clock.stamp
