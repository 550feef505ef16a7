use Rattle.std.proofs.Common.{◌≡◌, Option, sym, ap, ◌∙◌}
use Rattle.auction.specs.State.{State}
use Rattle.bidfile.specs.Items.{item_of}
use Rattle.listing.specs.declared.line.Line.{Line}
use Rattle.rehearsal.specs.Chosen.{auction_state}
use Rattle.rehearsal.specs.Hearing.{called}
use Rattle.rehearsal.proofs.CallsOf.{exit_called, years_called, back_called, close_called}
use Rattle.rehearsal.proofs.calls.Held+Open.call.Goals as goal
use Rattle.rehearsal.proofs.calls.Held+Open.call.Goals.{in-Exit, in-Years, in-StepBack}

out_same : {H : Type 0} (state_of : H → State) (o p : H) (k l : Option Line) → o ≡ p → k ≡ l → ◌≡◌ {A = State × Option Line} (state_of o, k) (state_of p, l)
out_same state_of o p k l e f = ap (λ x. (state_of x, k)) e ∙ ap (λ y. (state_of p, y)) f

pub returns-in-Close : goal.returns-in-Close
returns-in-Close c =
    let was = c.args.self in
    let s = auction_state was.auction in
    close_called c.args.said.place s was.clock.stamp _ was.own (c.close-session.ensures c.args.said.place)
    ∙ ap (λ x. called c.args.said.place s (item_of x)) (sym c.in-Close.is)

pub returns : goal.returns
returns c =
    let was = c.args.self in
    let s = auction_state was.auction in
    elim c.match-said.branch [ in-Exit w ↦ out_same (λ o. auction_state o.auction) _ _ _ _ w.self-is w.line-is ∙ exit_called c.args.said.place s was.clock.stamp w.in-Exit.exit _ was.own w.exit-line.ensures ∙ ap (λ x. called c.args.said.place s (item_of x)) (sym w.in-Exit.is) | in-Years w ↦ out_same (λ o. auction_state o.auction) _ _ _ _ w.self-is w.line-is ∙ years_called c.args.said.place s was.clock.stamp w.in-Years.years _ was.own w.years-line.ensures ∙ ap (λ x. called c.args.said.place s (item_of x)) (sym w.in-Years.is) | in-StepBack w ↦ out_same (λ o. auction_state o.auction) _ _ _ _ w.self-is w.line-is ∙ back_called c.args.said.place s was.clock.stamp _ was.own w.step_back-line.ensures ∙ ap (λ x. called c.args.said.place s (item_of x)) (sym w.in-StepBack.is) ]
