use Rattle.std.proofs.Common.{refl}
use Rattle.rehearsal.proofs.Takings.{no_items}
use Rattle.rehearsal.proofs.storage.Storage.gather.Goals as goal

pub returns : goal.returns
returns c = record { terms = refl; corners = no_items _ c.args.self.empty }
