use Rattle.std.proofs.Common.{◌≡◌, ◌<◌, ◌^◌, ◌∙◌, sym, sum_by, arith, rules}
use Rattle.std.proofs.iter.runs.Made.{chains}
use Rattle.book.specs.Books.{in_kw}
use Rattle.book.specs.Views.{books}
use Rattle.book.proofs.Kept.{book_keeps}
use Rattle.book.proofs.ModelLaws.{capacity_at_most_total, capacity_is}
use Rattle.book.proofs.book.Book.capacity_in.Goals as goal

pub sum-requires-clause-fits : goal.sum-requires-clause-fits
sum-requires-clause-fits c =
    let total = (book_keeps c.args.self.now).total in
    let most = capacity_at_most_total (books c.args.self.now).units in
    let same = capacity_is (books c.args.self.now).units in
    let fits : sum_by in_kw (books c.args.self.now).units < 2 ^ 32 = omega arith in
    search (rules, chains)

pub returns : goal.returns
returns c =
    let chain : c.sum.result ≡ sum_by in_kw (books c.args.self.now).units = search (rules, chains) in
    chain ∙ sym (capacity_is (books c.args.self.now).units)
