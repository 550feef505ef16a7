use Rattle.std.proofs.Common.{ap, ◌∙◌, rules}
use Rattle.book.specs.Lawful.{lawful}
use Rattle.book.specs.Views.{books}
use Rattle.book.proofs.Rules.{lawful_with_unit, total_with_unit}
use Rattle.book.proofs.book.Book.enrol.Goals as goal

pub invariant_of-self-clause-kept : goal.invariant_of-self-clause-kept
invariant_of-self-clause-kept c =
    ap lawful (search rules) ∙ lawful_with_unit (books c.args.self.now) c.args.application.now c.args.self.now.kept c.requires

pub invariant_of-self-clause-summed : goal.invariant_of-self-clause-summed
invariant_of-self-clause-summed c = let more = total_with_unit (books c.args.self.now) c.args.application.now in search rules
