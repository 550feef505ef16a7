use Rattle.std.proofs.Common.{arith}
use Rattle.bidfile.specs.Layout.{word_bytes}
use Rattle.bidtext.proofs.JoinedLists.{joined_next, joined_done}
use Rattle.bidtext.proofs.layouts.push_words.Goals as goal

pub loop-value-preserved : goal.loop-value-preserved
loop-value-preserved c =
    joined_next word_bytes c.args.values.now c.loop-value.value-index _ _ _ (omega arith) c.in_ok-push_word.ensures c.loop-value.invariant

pub returns : goal.returns
returns c = joined_done word_bytes c.args.values.now c.loop-value.value-index _ _ (omega arith) c.loop-value.invariant
