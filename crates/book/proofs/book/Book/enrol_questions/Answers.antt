use Rattle.std.proofs.Common.{rules}
use Rattle.book.proofs.Kept.{book_keeps}
use Rattle.book.proofs.book.Book.enrol_questions.Goals as goal

pub overflow_add-self : goal.overflow_add-self
overflow_add-self c = let k = book_keeps c.args.self.now in search rules
