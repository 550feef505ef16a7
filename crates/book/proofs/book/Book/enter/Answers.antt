use Rattle.std.proofs.Common.{◌≡◌, reverse, set, sym, ap, ◌∙◌, arith, rules}
use Rattle.std.proofs.lemmas.Grind.{common_steps}
use Rattle.book.specs.Books.{Books, stood, with_entry, total_enrolled}
use Rattle.book.specs.Lawful.{lawful}
use Rattle.book.specs.Views.{books}
use Rattle.book.proofs.ModelLaws.{total_stays}
use Rattle.book.proofs.Rules.{lawful_with_entry}
use Rattle.book.proofs.book.Book.enter.Goals as goal

-- one answer for all four, since field by field the search does not find `summed`
pub invariant_of-self : goal.invariant_of-self
invariant_of-self c =
    let b = books c.args.self.now in
    let written : record { units = set c.replace-table.result.rows.items c.args.unit (stood c.index-row.result.now c.args.standing); entries = reverse c.push_reserved.new.self.items } ≡ with_entry b c.args.unit c.args.standing c.args.kind
    = grind (arith, common_steps) in record {
      kept = ap lawful written ∙ lawful_with_entry b c.args.unit c.args.standing c.args.kind c.args.self.now.kept c.requires.lawful c.requires.room;
      summed = c.args.self.now.summed ∙ sym (ap (λ (a : Books). total_enrolled a.units) written ∙ total_stays b.units c.args.unit c.args.standing);
      wide = search rules;
      long = search rules;
    }
