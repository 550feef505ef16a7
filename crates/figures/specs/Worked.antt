-- All worked figures that follow from the rules alone.
use Rattle.figures.specs.Auctions.{WorkedAuctions}
use Rattle.figures.specs.Clearings.{WorkedClearings}
use Rattle.figures.specs.Curves.{WorkedCurves}
use Rattle.figures.specs.Rankings.{WorkedRankings}

pub record WorkedFigures : Type 0 where
  pub curves : WorkedCurves
  pub rankings : WorkedRankings
  pub clearings : WorkedClearings
  pub auctions : WorkedAuctions
