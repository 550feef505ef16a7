use Rattle.std.proofs.Common.{sym, ap, ◌∙◌}
use Rattle.rehearsal.specs.declared.progress.Progress.{Progress as Coded}
use Rattle.rehearsal.specs.Progress.{due, due_in}
use Rattle.rehearsal.specs.Takes.{progress_of}
use Rattle.rehearsal.proofs.OwnStages.{stage_is}
use Rattle.rehearsal.proofs.progress.Progress.due.Goals as goal

pub returns-in-Going : goal.returns-in-Going
returns-in-Going c =
    c.due.ensures ∙ ap due_in (sym (stage_is c.in-Going.session)) ∙ ap (λ (p : Coded). due (progress_of p)) (sym c.in-Going.is)
