use Rattle.std.proofs.Common.{subst}
use Rattle.auction.specs.Answers.{close_answer}
use Rattle.auction.specs.declared.clocks.Closed.{Closed}
use Rattle.auction.specs.Steps.{closed}
use Rattle.rehearsal.specs.Chosen.{auction_state}
use Rattle.rehearsal.proofs.Clocks.{Gives, accepted_gives, shut_facts, settled_facts, close_accepted}
use Rattle.rehearsal.proofs.calls.Held+Open.close.Goals as goal

pub unwrap-closed-requires : goal.unwrap-closed-requires
unwrap-closed-requires c =
    let was = c.args.self in
    close_accepted (λ made. close_answer made.0 made.1) c.close.result (auction_state was.auction) was.clock.stamp (auction_state c.close.new.self) was.own c.close.ensures.step

pub invariant_of-shut : goal.invariant_of-shut
invariant_of-shut c =
    let was = c.args.self in
    let s = auction_state was.auction in
    let t = auction_state c.close.new.self in
    let figures = c.unwrap-closed.result.0 in
    let gives = accepted_gives (λ made. close_answer made.0 made.1) c.close.result c.unwrap-closed.result (closed s was.clock.stamp) t c.unwrap-closed.ensures c.close.ensures.step in
    let f = shut_facts s was.clock.stamp t figures c.in-Shut.clock.stamp was.numbers was.own was.counted
    (subst (λ (d : Closed). Gives (closed s was.clock.stamp) t (close_answer figures d)) c.in-Shut.is gives) in
    record { own = f.0; counted = f.1 }

pub invariant_of-settled : goal.invariant_of-settled
invariant_of-settled c =
    let was = c.args.self in
    let s = auction_state was.auction in
    let t = auction_state c.close.new.self in
    let figures = c.unwrap-closed.result.0 in
    let gives = accepted_gives (λ made. close_answer made.0 made.1) c.close.result c.unwrap-closed.result (closed s was.clock.stamp) t c.unwrap-closed.ensures c.close.ensures.step in
    let f = settled_facts s was.clock.stamp t figures c.in-Settled.clock.stamp was.numbers was.own was.counted
    (subst (λ (d : Closed). Gives (closed s was.clock.stamp) t (close_answer figures d)) c.in-Settled.is gives) in
    record { own = f.0; counted = f.1 }
