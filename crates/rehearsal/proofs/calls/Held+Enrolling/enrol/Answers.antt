use Rattle.rehearsal.specs.Chosen.{auction_state}
use Rattle.rehearsal.proofs.Clocks.{enrolled_keeps}
use Rattle.rehearsal.proofs.calls.Held+Enrolling.enrol.Goals as goal

pub invariant_of-self : goal.invariant_of-self
invariant_of-self c =
    let was = c.args.self.now in
    let f = enrolled_keeps _ was.clock.stamp was.clock.stamp was.numbers (auction_state was.auction) _ (was.own, was.counted) c.args.said.now c.enrol-result.ensures in
    record { own = f.0; counted = f.1 }
