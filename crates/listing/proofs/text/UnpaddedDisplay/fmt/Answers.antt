use Rattle.std.proofs.Common.{ap, ◌∙◌, arith}
use Rattle.std.proofs.Output.{has_written_of_eq}
use Rattle.std.proofs.lemmas.List.{take_all}
use Rattle.std.specs.List.{flat_map}
use Rattle.listing.specs.Texts.{byte_text}
use Rattle.listing.proofs.NameTexts.{name_text_is}
use Rattle.listing.proofs.text.UnpaddedDisplay.fmt.Goals as goal

pub returns-clause-writes : goal.returns-clause-writes
returns-clause-writes g c plain ok =
    let bytes = c.bytes-byte-items.result.now in
    let all = take_all c.loop-byte.byte-index bytes (omega arith) in
    has_written_of_eq _ _ _ _ _ (ap (flat_map byte_text) (all ∙ c.bytes-byte-items.ensures) ∙ name_text_is c.args.self.now.name) (c.loop-byte.invariant plain)
