use Rattle.std.proofs.Common.{rules}
use Rattle.book.proofs.NameLaws.{same_as_numbers}
use Rattle.book.proofs.names.is_same_name.Goals as goal

pub returns : goal.returns
returns c =
    let same = same_as_numbers c.args.a c.args.b (search rules) (search rules) (search rules) (search rules) in
    search rules
