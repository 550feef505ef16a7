-- Every book of the code keeps the rule. Assumes nothing.
use Rattle.std.proofs.Common.{◌≡◌, true}
use Rattle.book.specs.declared.book.Book.{Book}
use Rattle.book.specs.Lawful.{lawful}
use Rattle.book.specs.Views.{books}
use Rattle.book.proofs.Rules.{Keeps, lawful_keeps}

pub book_kept : (b : Book) → lawful (books b) ≡ true
book_kept b = b.kept

-- part by part
pub book_keeps : (b : Book) → Keeps (books b)
book_keeps b = lawful_keeps (books b) (book_kept b)
