use Rattle.std.proofs.Common.{◌∙◌, arith}
use Rattle.bidtext.proofs.NameTexts.{pair_pushed, hexed_more, hexed_all}
use Rattle.bidtext.proofs.texts.hex_text.Goals as goal

pub loop-byte-preserved : goal.loop-byte-preserved
loop-byte-preserved c =
    hexed_more c.args.name.now _ _ _ c.loop-byte.byte-index (omega arith)
    (pair_pushed _ _ _ _ c.from.result c.from-in-loop-byte.result (omega (arith, c.type_inv.name c.loop-byte.byte-index))
    (c.from.ensures ∙ c.hex_digit.ensures) (c.from-in-loop-byte.ensures ∙ c.hex_digit-in-loop-byte.ensures)
    c.in_ok-push.ensures.bytes c.in_ok-push-2.ensures.bytes)
    c.loop-byte.invariant

pub returns : goal.returns
returns c = hexed_all c.args.name.now _ _ c.loop-byte.byte-index (omega arith) c.loop-byte.invariant
