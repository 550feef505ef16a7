use Rattle.std.proofs.Common.{sym, refl, ap, ◌∙◌, subst}
use Rattle.bidfile.specs.Found.{found}
use Rattle.bidfile.specs.Words.{words}
use Rattle.rehearsal.specs.declared.progress.Progress.TheVariants as coded
use Rattle.listing.specs.Faults.{fault_line}
use Rattle.rehearsal.specs.Market.{Market}
use Rattle.rehearsal.proofs.Markets.{market}
use Rattle.rehearsal.proofs.Advances.{sound_both}
use Rattle.rehearsal.proofs.RunSteps.{short_file, listed_fault, listed_lines}
use Rattle.rehearsal.proofs.run.lines.rehearse.Goals as goal

pub invariant_of-result : goal.invariant_of-result
invariant_of-result c = record { kept = sound_both coded.Over _ _ refl refl }

pub returns-in-Err : goal.returns-in-Err
returns-in-Err c =
    let reader = c.new-reader.result in
    let listed = listed_fault c.args.file.now reader.file.now c.in-Err.fault c.from-line.result _ (found reader.file.now reader.at) c.new-reader.ensures.bytes c.in-Err.ensures.refusal c.in-Err.ensures.place (c.from-line.ensures ∙ ap fault_line c.from.ensures) c.new.ensures in
    record { listing = listed; market = subst (Market c.args.file.now) (sym listed) (market c.args.file.now) }

pub invariant_of-result-2 : goal.invariant_of-result-2
invariant_of-result-2 c =
    let reader = c.new-reader.result in
    record { kept = sound_both (coded.Fresh c.args.storage) reader.at (words reader.file.now) (short_file reader.file.now c.in_default.ensures.refusal) refl }

pub returns : goal.returns
returns c =
    let reader = c.new-reader.result in
    let listed = listed_lines c.args.file.now reader.file.now c.args.storage _ reader.at c.new-reader.ensures.bytes c.in_default.ensures.refusal c.new-reader.ensures.start c.new-2.ensures in
    record { listing = listed; market = subst (Market c.args.file.now) (sym listed) (market c.args.file.now) }
