use Rattle.std.proofs.Common.{rules}
use Rattle.book.specs.Views.{books}
use Rattle.book.proofs.Rules.{exit_stands}
use Rattle.book.proofs.book.Book.put_out.Goals as goal

pub enter-requires-clause-lawful : goal.enter-requires-clause-lawful
enter-requires-clause-lawful c =
    let stands = exit_stands (books c.args.self.now) c.args.unit c.args.price c.args.self.now.kept c.requires in search rules
