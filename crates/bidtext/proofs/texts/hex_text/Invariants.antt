use Rattle.std.proofs.Common.{◌≡◌, ◌++◌, drop, string_bytes, codes}
use Rattle.bidtext.specs.Texts.{hex_pair}
use Rattle.bidtext.proofs.texts.hex_text.Given as goal
use Rattle.std.specs.List.{flat_map}

abbrev pub invariant-loop-byte : goal.invariant-loop-byte
invariant-loop-byte l = string_bytes l.text ++ flat_map hex_pair (drop l.byte-index l.name) ≡ codes "hex:" ++ flat_map hex_pair l.name
