use Rattle.std.proofs.Common.{length, vec_items}
use Rattle.bidtext.proofs.TextRows.{SoFar}
use Rattle.bidtext.proofs.files.text_words.Given as goal

abbrev pub invariant-loop-before : goal.invariant-loop-before
invariant-loop-before l = SoFar l.text (length l.yielded) (vec_items l.words)
