use Rattle.std.proofs.Common.{◌≡◌, drop}
use Rattle.bidtext.specs.Fields.{fields}
use Rattle.bidtext.proofs.fields.field.Given as goal

abbrev pub invariant-loop-passed : goal.invariant-loop-passed
invariant-loop-passed l = fields l.rest ≡ drop l._passed (fields l.line)
