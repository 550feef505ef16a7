use Rattle.std.proofs.Common.{rules}
use Rattle.book.specs.Views.{books}
use Rattle.book.proofs.Rules.{years_stand}
use Rattle.book.proofs.book.Book.serve.Goals as goal

pub enter-requires-clause-lawful : goal.enter-requires-clause-lawful
enter-requires-clause-lawful c =
    let stands = years_stand (books c.args.self.now) c.args.unit c.args.years c.args.self.now.kept c.requires in search rules
