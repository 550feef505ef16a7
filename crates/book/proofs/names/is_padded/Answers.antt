use Rattle.std.specs.Prelude.{◌==◌}
use Rattle.std.proofs.Common.{◌∙◌, sym, rules, tests}
use Rattle.std.proofs.lemmas.Iterator.{YieldsList-from_slice}
use Rattle.std.proofs.lemmas.Iterator.Adapters.{YieldsList-from_skip_while}
use Rattle.std.proofs.lemmas.Iterator.Search.{all_from_yields_List}
use Rattle.book.specs.Names.{name_character}
use Rattle.book.proofs.NameLaws.{padded_is}
use Rattle.book.proofs.names.is_padded.Goals as goal

pub returns : goal.returns
returns c =
    all_from_yields_List (λ b. b == 32) _ _ c.all.result c.all.ensures.ran
    (YieldsList-from_skip_while _ _ _ name_character _ (λ x b q k. search (rules, tests)) (YieldsList-from_slice c.args.name (cc)) c.skip_while.ensures.closure c.skip_while.ensures.done_skipping)
    (λ x b q k. search (rules, tests))
    ∙ sym (padded_is c.args.name)
