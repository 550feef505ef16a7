-- What is selected keeps the laws.
use Rattle.std.proofs.Common.{◌≡◌, true, List, [], ◌∷◌, None, refl, arith}
use Rattle.bidfile.specs.declared.records.CurveChoice.{CurveChoice}
use Rattle.bidfile.specs.declared.records.OrderChoice.{OrderChoice}
use Rattle.bidfile.specs.declared.records.OrderChoice.TheVariants.{ByRule, ByName}
use Rattle.curve.specs.Corners.{corner_questions}
use Rattle.curve.specs.declared.corner.Corner.{Corner}
use Rattle.curve.specs.Meaning.{Laws as CurveLaws}
use Rattle.curve.specs.Questions.{Question, first_no, all_yes}
use Rattle.curve.specs.OutlineLaws.{curve_laws}
use Rattle.ranking.specs.Laws.{Laws as OrderLaws}
use Rattle.ranking.specs.Compares.{rule_laws, name_ties_laws}
use Rattle.selection.specs.Selected.{shape, selected_curve, selected_ties}
use Rattle.std.proofs.lemmas.Bool.Decides.{nat_tests}

-- no "no" is a "yes" to each question
pub none_no : (qs : List Question) → first_no qs ≡ None → all_yes qs ≡ true
none_no [] e = refl
none_no (q ∷ qs) e = let i : first_no qs ≡ None → all_yes qs ≡ true = none_no qs in grind (arith, nat_tests)

pub selected_curve_laws : (choice : CurveChoice) (corners : List Corner) → first_no (corner_questions (shape choice) corners) ≡ None → CurveLaws (selected_curve choice corners)
selected_curve_laws choice corners e = curve_laws (shape choice) corners (none_no (corner_questions (shape choice) corners) e)

pub selected_ties_laws : (choice : OrderChoice) → OrderLaws (λ e. e.unit) (selected_ties choice)
selected_ties_laws ByRule = rule_laws
selected_ties_laws ByName = name_ties_laws
