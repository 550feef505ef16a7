-- The call of a record, made with the auction's own clock.
use Rattle.std.proofs.Common.{◌≡◌, ℕ, true, Option, ap, ◌∙◌}
use Rattle.auction.specs.declared.clocks.Stage.TheVariants.{Enrolling, Open}
use Rattle.auction.specs.declared.clocks.Stamp.{Stamp}
use Rattle.auction.specs.State.{State, current}
use Rattle.auction.specs.Steps.{enrolled, exited, served, went_back, closed}
use Rattle.bidfile.specs.declared.records.ExitRecord.{ExitRecord}
use Rattle.bidfile.specs.declared.records.YearsRecord.{YearsRecord}
use Rattle.bidfile.specs.Items.{UnitItem, unit, exit, years, step_back, close}
use Rattle.book.specs.declared.terms.Application.{Application}
use Rattle.listing.specs.declared.line.Line.{Line}
use Rattle.rehearsal.specs.Events.{application}
use Rattle.rehearsal.specs.Hearing.{called}
use Rattle.rehearsal.specs.Saying.{reply}
use Rattle.rehearsal.proofs.Clocks.{own_stamp}

pub unit_called : (at : ℕ) (s : State) (k : Stamp) (u : UnitItem) (a : Application) (p : State × Option Line) → current s Enrolling k ≡ true → a ≡ application u → p ≡ reply at s (enrolled s k a) → p ≡ called at s (unit u)
unfolding called
unit_called at s k u a p own is e =
    e ∙ ap (λ b. reply at s (enrolled s k b)) is ∙ ap (λ c. reply at s (enrolled s c (application u))) (own_stamp s Enrolling k own)

pub exit_called : (at : ℕ) (s : State) (k : Stamp) (x : ExitRecord) (p : State × Option Line) → current s Open k ≡ true → p ≡ reply at s (exited s k x.unit x.price) → p ≡ called at s (exit x)
unfolding called
exit_called at s k x p own e = e ∙ ap (λ c. reply at s (exited s c x.unit x.price)) (own_stamp s Open k own)

pub years_called : (at : ℕ) (s : State) (k : Stamp) (y : YearsRecord) (p : State × Option Line) → current s Open k ≡ true → p ≡ reply at s (served s k y.unit y.years) → p ≡ called at s (years y)
unfolding called
years_called at s k y p own e = e ∙ ap (λ c. reply at s (served s c y.unit y.years)) (own_stamp s Open k own)

pub back_called : (at : ℕ) (s : State) (k : Stamp) (p : State × Option Line) → current s Open k ≡ true → p ≡ reply at s (went_back s k) → p ≡ called at s step_back
unfolding called
back_called at s k p own e = e ∙ ap (λ c. reply at s (went_back s c)) (own_stamp s Open k own)

pub close_called : (at : ℕ) (s : State) (k : Stamp) (p : State × Option Line) → current s Open k ≡ true → p ≡ reply at s (closed s k) → p ≡ called at s close
unfolding called
close_called at s k p own e = e ∙ ap (λ c. reply at s (closed s c)) (own_stamp s Open k own)
