use Rattle.std.proofs.Common.{sym, ap, ◌∙◌}
use Rattle.bidfile.specs.Items.{item_of, unit_item}
use Rattle.rehearsal.specs.Chosen.{auction_state}
use Rattle.rehearsal.specs.Hearing.{called}
use Rattle.rehearsal.proofs.CallsOf.{unit_called}
use Rattle.rehearsal.proofs.calls.Held+Enrolling.call.Goals as goal

pub returns : goal.returns
returns c =
    let was = c.args.self in
    let s = auction_state was.auction in
    unit_called c.args.said.place s was.clock.stamp (unit_item c.in-Unit.unit) _ _ was.own c.applied.ensures c.enrol-line.ensures
    ∙ ap (λ x. called c.args.said.place s (item_of x)) (sym c.in-Unit.is)
