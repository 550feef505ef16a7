use Rattle.std.proofs.Common.{rules}
use Rattle.std.proofs.lemmas.List.Sorted.{answers_always}
use Rattle.curve.specs.Corners.{near}
use Rattle.curve.proofs.Neighbours.{neighbours_asked}
use Rattle.curve.proofs.check.are_near.Goals as goal

pub returns : goal.returns
returns c =
    neighbours_asked near c.args.corners.now c.is_sorted_by.result
    (c.is_sorted_by.ensures.cases near (answers_always _ _ _ (λ f a r q k. search rules)))
