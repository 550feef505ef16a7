use Rattle.std.proofs.Common.{◌≡◌, ℕ, ◌+◌, List, [], ap, ◌∙◌, arith}
use Rattle.bidtext.specs.Fields.{fields, field_at, after}
use Rattle.bidtext.proofs.Pieces.{passed_more}
use Rattle.bidtext.proofs.fields.field.Goals as goal
use Rattle.std.proofs.lemmas.List.{get_or-drop}

pub loop-passed-preserved : goal.loop-passed-preserved
loop-passed-preserved c =
    c.rest_of-rest.ensures ∙ ap after c.loop-passed.invariant ∙ passed_more (fields c.args.line.now) c.loop-passed._passed

pub returns : goal.returns
returns c =
    let all : c.loop-passed._passed + 0 ≡ c.args.place = omega arith in
    c.first_field.ensures
    ∙ ap (λ (fs : List (List ℕ)). field_at fs 0) c.loop-passed.invariant
    ∙ get_or-drop c.loop-passed._passed (fields c.args.line.now) 0 []
    ∙ ap (field_at (fields c.args.line.now)) all
