use Rattle.std.proofs.Common.{◌≡◌, ◌++◌, drop, vec_items}
use Rattle.bidfile.specs.Layout.{word_bytes}
use Rattle.bidtext.proofs.layouts.push_words.Given as goal
use Rattle.std.specs.List.{flat_map}

abbrev pub invariant-loop-value : goal.invariant-loop-value
invariant-loop-value l =
    vec_items l.words ++ flat_map word_bytes (drop l.value-index l.values) ≡ vec_items l.initial.words ++ flat_map word_bytes l.values
