use Rattle.figures.proofs.WorkedAuctions.{worked_auctions}
use Rattle.figures.proofs.WorkedClearings.{worked_clearings}
use Rattle.figures.proofs.WorkedCurves.{worked_curves}
use Rattle.figures.proofs.WorkedRankings.{worked_rankings}
use Rattle.figures.proofs.theorem.figures_follow_from_the_rules.Goals as goal

pub returns : goal.returns
returns c = record { curves = worked_curves; rankings = worked_rankings; clearings = worked_clearings; auctions = worked_auctions }
