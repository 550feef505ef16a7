-- What a selected curve and a selected order mean. Assumes nothing.
use Rattle.std.specs.Prelude.{Bool, vec_items}
use Rattle.curve.specs.declared.side.Shape.TheVariants.{Steps, Lines}
use Rattle.curve.specs.Meaning.{Meaning}
use Rattle.curve.specs.Outline.{sides, outline}
use Rattle.ranking.specs.Ahead.{rule_ahead, name_ahead}
use Rattle.ranking.specs.declared.exits.Exit.{Exit}
use Rattle.selection.specs.declared.curves.SelectedCurve.{SelectedCurve}
use Rattle.selection.specs.declared.curves.SelectedCurve.TheVariants.{Straight, Stepped}
use Rattle.selection.specs.declared.ties.SelectedOrder.{SelectedOrder}
use Rattle.selection.specs.declared.ties.SelectedOrder.TheVariants.{ByRule, ByName}

abbrev pub curve_meaning : SelectedCurve → Meaning
curve_meaning (Straight c) = outline (sides Lines (vec_items c.corners))
curve_meaning (Stepped c) = outline (sides Steps (vec_items c.corners))

abbrev pub order_ahead : SelectedOrder → Exit → Exit → Bool
order_ahead ByRule = rule_ahead
order_ahead ByName = name_ahead
