use Rattle.std.proofs.Common.{◌≡◌, reverse, set, sym, ap, ◌∙◌, arith, rules}
use Rattle.std.proofs.lemmas.Grind.{common_steps}
use Rattle.book.specs.Books.{Books, stepped_back, total_enrolled}
use Rattle.book.specs.Lawful.{lawful}
use Rattle.book.specs.Views.{books}
use Rattle.book.proofs.ModelLaws.{total_after_step_back}
use Rattle.book.proofs.Rules.{latest_unit, lawful_stepped_back}
use Rattle.book.proofs.book.Book.step_back.Goals as goal

pub row_mut-requires : goal.row_mut-requires
row_mut-requires c = let lt = latest_unit _ _ _ _ c.args.self.now.kept c.in-Some.ensures.items in search rules

-- one answer for all four, since field by field the search does not find `summed`
pub invariant_of-self : goal.invariant_of-self
invariant_of-self c =
    let b = books c.args.self.now in
    let written : record { units = set c.args.self.now.table.rows.items c.in-Some.last.unit c.stand_again.new.self; entries = reverse c.pop.new.self.items } ≡ stepped_back b
    = grind (arith, common_steps) in record {
      kept = ap lawful written ∙ lawful_stepped_back b c.args.self.now.kept;
      summed = c.args.self.now.summed ∙ sym (ap (λ (a : Books). total_enrolled a.units) written ∙ total_after_step_back b);
      wide = search rules;
      long = search rules;
    }
