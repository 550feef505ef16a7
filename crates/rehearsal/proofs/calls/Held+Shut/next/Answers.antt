use Rattle.std.proofs.Common.{ap, ◌∙◌}
use Rattle.auction.specs.declared.clocks.Stage.TheVariants.{Shut}
use Rattle.auction.specs.Steps.{went_on}
use Rattle.rehearsal.specs.Hearing.{after_next}
use Rattle.rehearsal.specs.Chosen.{auction_state}
use Rattle.rehearsal.proofs.Clocks.{own_stamp}
use Rattle.rehearsal.proofs.calls.Held+Shut.next.Goals as goal

pub returns : goal.returns
unfolding after_next
returns c =
    let was = c.args.self in
    let s = auction_state was.auction in
    ap (λ p. p.0) c.next.ensures.step ∙ ap (λ k. (went_on s k).0) (own_stamp s Shut was.clock.stamp was.own)
