use Rattle.bidtext.proofs.Pieces.{parted}
use Rattle.bidtext.proofs.fields.first_field.Goals as goal
use Rattle.std.proofs.lemmas.List.{take_rest}

pub returns : goal.returns
returns c =
    (parted c.args.line.now _ c.blanks.result c.field_len.result c.blanks.ensures.count
    (take_rest c.args.line.now c.blanks.result) c.field_len.ensures.count).field
