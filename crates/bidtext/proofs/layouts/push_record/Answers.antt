use Rattle.std.proofs.Common.{List, ℕ, ◌≡◌, ◌++◌, IfOk, vec_items, sym, subst}
use Rattle.bidfile.specs.Layout.{layout}
use Rattle.bidfile.specs.declared.records.Record.{Record}
use Rattle.bidtext.specs.RoundTrip.{own_item}
use Rattle.bidtext.proofs.layouts.push_record.Goals as goal

pub returns-in-Terms : goal.returns-in-Terms
returns-in-Terms c =
    subst (λ (r : Record (List ℕ)). IfOk c.push_terms.result (λ _. vec_items c.push_terms.new.words ≡ vec_items c.args.words.now ++ layout (own_item r))) (sym c.in-Terms.is) c.push_terms.ensures

pub returns-in-Unit : goal.returns-in-Unit
returns-in-Unit c =
    subst (λ (r : Record (List ℕ)). IfOk c.push_unit.result (λ _. vec_items c.push_unit.new.words ≡ vec_items c.args.words.now ++ layout (own_item r))) (sym c.in-Unit.is) c.push_unit.ensures
