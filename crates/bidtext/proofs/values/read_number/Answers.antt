use Rattle.std.proofs.Common.{rules}
use Rattle.bidtext.specs.Values.{number_in}
use Rattle.bidtext.proofs.values.read_number.Goals as goal

pub returns-then-not-is_numeral : goal.returns-then-not-is_numeral
unfolding number_in
returns-then-not-is_numeral c = search rules

pub returns-then-number-lt-LIMIT : goal.returns-then-number-lt-LIMIT
unfolding number_in
returns-then-number-lt-LIMIT c = search rules

pub returns-else-number-lt-LIMIT : goal.returns-else-number-lt-LIMIT
unfolding number_in
returns-else-number-lt-LIMIT c = search rules
