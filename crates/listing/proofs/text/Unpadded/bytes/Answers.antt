use Rattle.std.proofs.Common.{take, ap, ◌∙◌}
use Rattle.listing.proofs.NameTexts.{unpadded_is}
use Rattle.listing.proofs.text.Unpadded.bytes.Goals as goal

pub returns : goal.returns
returns c =
    let name = c.args.self.now.name in
    ap (λ n. take n name) c.unpadded_len.ensures.value ∙ unpadded_is name
