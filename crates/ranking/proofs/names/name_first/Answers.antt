use Rattle.std.proofs.Common.{arith, rules}
use Rattle.std.proofs.lemmas.Bool.Decides.{nat_tests}
use Rattle.ranking.proofs.NameNumbers.{as_numbers}
use Rattle.ranking.proofs.names.name_first.Goals as goal

pub returns : goal.returns
returns c =
    let order = as_numbers c.args.a c.args.b c.args.ties (search rules) (search rules) (search rules) (search rules) in
    grind (arith, nat_tests)
