use Rattle.std.proofs.Common.{ℕ, List, ◌≡◌, IfOk, string_bytes, sym, subst}
use Rattle.bidfile.specs.declared.records.Record.{Record}
use Rattle.std.specs.Borrow.{Bor}
use Rattle.bidfile.specs.Items.{item_of}
use Rattle.bidtext.specs.Texts.{line_text}
use Rattle.bidtext.proofs.texts.record_text.Goals as goal

pub returns-in-Terms : goal.returns-in-Terms
returns-in-Terms c =
    subst (λ (r : Record (Bor (List ℕ))). IfOk c.terms_text.result (λ s. string_bytes s ≡ line_text (item_of r))) (sym c.in-Terms.is) c.terms_text.ensures
