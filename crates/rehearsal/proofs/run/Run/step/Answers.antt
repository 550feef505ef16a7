use Rattle.std.proofs.Common.{◌≡◌, true, sym, refl, ap, subst}
use Rattle.bidfile.specs.Words.{words}
use Rattle.rehearsal.specs.declared.progress.Progress.{Progress as Coded}
use Rattle.rehearsal.specs.declared.progress.Progress.TheVariants as coded
use Rattle.rehearsal.specs.Progress.{is_over}
use Rattle.rehearsal.specs.Soundness.{sound}
use Rattle.rehearsal.specs.Takes.{progress_of}
use Rattle.rehearsal.proofs.Advances.{sound_both}
use Rattle.rehearsal.proofs.RunSteps.{went_lines, falls, fault_lines, over_falls}
use Rattle.rehearsal.proofs.run.Run.step.Goals as goal

pub invariant_of-self-in-Err : goal.invariant_of-self-in-Err
invariant_of-self-in-Err c =
    let end = c.advance.new.reader.at in
    let n = words c.advance.new.reader.file.now in
    record { kept = subst (λ (p : Coded). sound p end n ≡ true) (sym c.replace-progress.ensures.after) (sound_both coded.Over end n refl refl) }

pub returns-in-Ok : goal.returns-in-Ok
returns-in-Ok c =
    let was = c.args.self.now in
    let bytes = was.reader.file.now in
    let after = c.advance.new.reader in
    record {
      lines = went_lines _ _ _ c.in-Ok.progress was.progress c.replace-progress.result bytes after.file.now after.at was.reader.at c.put_all.ensures c.advance.ensures.bytes c.in-Ok.ensures.lines c.replace-progress.ensures.value c.requires.0;
      falls = falls (is_over (progress_of c.in-Ok.progress)) (is_over (progress_of was.progress)) (words after.file.now) (words bytes) after.at was.reader.at (ap words c.advance.ensures.bytes) c.requires.1 c.in-Ok.ensures.place.1;
    }

pub returns-in-Err : goal.returns-in-Err
returns-in-Err c =
    let was = c.args.self.now in
    let bytes = was.reader.file.now in
    let after = c.advance.new.reader in
    record {
      lines = fault_lines _ _ c.in-Err.fault c.replace-progress.new.dest was.progress c.replace-progress.result bytes after.file.now after.at was.reader.at c.fault-self.ensures c.replace-progress.ensures.after c.in-Err.ensures.lines c.replace-progress.ensures.value c.requires.0;
      falls = over_falls c.replace-progress.new.dest (is_over (progress_of was.progress)) (words after.file.now) (words bytes) after.at was.reader.at c.replace-progress.ensures.after c.requires.1;
    }
