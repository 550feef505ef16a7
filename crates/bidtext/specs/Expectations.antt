-- What is told of a line that cannot be read, and the words that have to stand on one.
use Rattle.std.specs.Prelude.{ℕ, List, [], codes}
use Rattle.bidtext.specs.declared.expected.Expected.{Expected}
use Rattle.bidtext.specs.declared.expected.Expected.TheVariants as expected

abbrev pub expected_text : Expected → List ℕ
expected_text expected.Record = codes "auction, corner, unit, exit, years, back or close"
expected_text expected.Cap = codes "the word cap"
expected_text expected.Spread = codes "the word spread"
expected_text expected.Threshold = codes "the word threshold"
expected_text expected.Curve = codes "the word curve"
expected_text expected.CurveChoice = codes "straight or stepped"
expected_text expected.Order = codes "the word order"
expected_text expected.OrderChoice = codes "rule or name"
expected_text expected.Name = codes "a name of 1 to 8 printable characters, or hex: and 16 hexadecimal digits"
expected_text expected.Class = codes "existing, refurbishing, new, demand or the number of a class"
expected_text expected.Side = codes "taker or maker"
expected_text expected.Years = codes "the word years"
expected_text expected.Random = codes "the word random"
expected_text expected.Number = codes "a number in decimal digits"
expected_text expected.SmallNumber = codes "a number of at most 268435455"
expected_text expected.End = codes "nothing more on the line"

-- the word that has to stand there, none where it is no certain word
abbrev pub expected_word : Expected → List ℕ
expected_word expected.Record = []
expected_word expected.Cap = codes "cap"
expected_word expected.Spread = codes "spread"
expected_word expected.Threshold = codes "threshold"
expected_word expected.Curve = codes "curve"
expected_word expected.CurveChoice = []
expected_word expected.Order = codes "order"
expected_word expected.OrderChoice = []
expected_word expected.Name = []
expected_word expected.Class = []
expected_word expected.Side = []
expected_word expected.Years = codes "years"
expected_word expected.Random = codes "random"
expected_word expected.Number = []
expected_word expected.SmallNumber = []
expected_word expected.End = []
