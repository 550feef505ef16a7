use Rattle.std.proofs.Common.{List, ◌++◌, sym, ap, ◌∙◌}
use Rattle.bidfile.specs.Found.{found}
use Rattle.listing.specs.declared.line.Line.{Line}
use Rattle.rehearsal.specs.Left.{lines_ahead}
use Rattle.rehearsal.proofs.RunSteps.{nothing_ahead}
use Rattle.rehearsal.proofs.run.Run.next_line.Goals as goal

pub returns-then-is_over : goal.returns-then-is_over
returns-then-is_over c =
    let here = c.loop-line.self in
    let fs = found here.reader.file.now here.reader.at in
    let none = nothing_ahead here.progress fs (sym c.is_over.ensures ∙ c.if-is_over.true) in
    let handed = c.in_default.ensures in
    (sym c.loop-line.invariant ∙ ap (λ (w : List Line). w ++ lines_ahead here.progress fs) handed.steps.0 ∙ none, ap (λ (w : List Line). w ++ lines_ahead here.progress fs) handed.steps.1 ∙ none)
