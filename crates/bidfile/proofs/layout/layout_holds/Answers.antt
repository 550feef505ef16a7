use Rattle.bidfile.proofs.ReadBack.{reads_back}
use Rattle.bidfile.proofs.layout.layout_holds.Goals as goal

pub returns : goal.returns
returns c = reads_back
