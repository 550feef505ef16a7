use Rattle.std.proofs.Common.{◌-◌, string_bytes}
use Rattle.bidfile.specs.Words.{words}
use Rattle.bidtext.proofs.KeptRecords.{Listing}
use Rattle.bidtext.proofs.backwards.list.Given as goal

abbrev pub invariant-loop-placed : goal.invariant-loop-placed
invariant-loop-placed l = Listing l.file l.reader.file.now l.reader.at (string_bytes l.text)

abbrev pub decreases-loop-placed : goal.decreases-loop-placed
decreases-loop-placed l = words l.file - l.reader.at
