mod WorkedAuctions
mod WorkedClearings
mod WorkedCurves
mod WorkedRankings
