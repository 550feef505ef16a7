use Rattle.std.proofs.Common.{ap, ◌∙◌}
use Rattle.auction.specs.declared.clocks.Stage.TheVariants.{Enrolling}
use Rattle.auction.specs.Steps.{begun}
use Rattle.rehearsal.specs.Hearing.{after_begin}
use Rattle.rehearsal.specs.Chosen.{auction_state}
use Rattle.rehearsal.proofs.Clocks.{own_stamp}
use Rattle.rehearsal.proofs.calls.Held+Enrolling.begin.Goals as goal

pub returns : goal.returns
unfolding after_begin
returns c =
    let was = c.args.self in
    let s = auction_state was.auction in
    ap (λ p. p.0) c.begin.ensures.step ∙ ap (λ k. (begun s k).0) (own_stamp s Enrolling was.clock.stamp was.own)
