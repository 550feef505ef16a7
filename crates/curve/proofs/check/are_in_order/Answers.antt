use Rattle.std.proofs.Common.{rules}
use Rattle.std.proofs.lemmas.List.Sorted.{answers_always}
use Rattle.curve.specs.Corners.{rises}
use Rattle.curve.proofs.Neighbours.{neighbours_asked}
use Rattle.curve.proofs.check.are_in_order.Goals as goal

pub returns : goal.returns
returns c =
    neighbours_asked rises c.args.corners.now c.is_sorted_by.result
    (c.is_sorted_by.ensures.cases rises (answers_always _ _ _ (λ f a r q k. search rules)))
