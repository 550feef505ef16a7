-- What a book of the code holds. Assumes nothing.
use Rattle.std.specs.Prelude.{reverse, vec_items}
use Rattle.book.specs.declared.book.Book.{Book}
use Rattle.book.specs.Books.{Books}

abbrev pub books : Book → Books
books b = record { units = vec_items b.table.rows; entries = reverse (vec_items b.entries) }
