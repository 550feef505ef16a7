-- What the selectors of a bid file select. Assumes nothing.
use Rattle.std.specs.Prelude.{Bool, List}
use Rattle.bidfile.specs.declared.records.CurveChoice.{CurveChoice}
use Rattle.bidfile.specs.declared.records.CurveChoice.TheVariants.{Straight, Stepped}
use Rattle.bidfile.specs.declared.records.OrderChoice.{OrderChoice}
use Rattle.bidfile.specs.declared.records.OrderChoice.TheVariants.{ByRule, ByName}
use Rattle.curve.specs.declared.corner.Corner.{Corner}
use Rattle.curve.specs.declared.side.Shape.{Shape}
use Rattle.curve.specs.declared.side.Shape.TheVariants.{Steps, Lines}
use Rattle.curve.specs.Meaning.{Meaning}
use Rattle.curve.specs.Outline.{sides, outline}
use Rattle.ranking.specs.Ahead.{rule_ahead, name_ahead}
use Rattle.ranking.specs.declared.exits.Exit.{Exit}

abbrev pub shape : CurveChoice → Shape
shape Straight = Lines
shape Stepped = Steps

-- what the curve with these corners means
abbrev pub selected_curve : CurveChoice → List Corner → Meaning
selected_curve choice corners = outline (sides (shape choice) corners)

abbrev pub selected_ties : OrderChoice → Exit → Exit → Bool
selected_ties ByRule = rule_ahead
selected_ties ByName = name_ahead
