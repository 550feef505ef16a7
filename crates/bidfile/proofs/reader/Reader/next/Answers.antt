use Rattle.std.proofs.Common.{ℕ, ◌+◌, ap, ◌∙◌, arith}
use Rattle.bidfile.proofs.Handing.{handed_end, stays, moves, lies}
use Rattle.bidfile.specs.Items.{size}
use Rattle.bidfile.proofs.reader.Reader.next.Goals as goal

pub returns-then-self-count-clause-answer : goal.returns-then-self-count-clause-answer
returns-then-self-count-clause-answer c =
    c.end.ensures ∙ handed_end c.args.due c.args.self.now.file.now c.args.self.now.at (omega arith)

pub returns-then-self-count-clause-place : goal.returns-then-self-count-clause-place
returns-then-self-count-clause-place c =
    (stays c.args.due c.args.self.now.file.now c.args.self.now.at c.end.result c.end.ensures).0

pub returns-then-self-count-clause-laid : goal.returns-then-self-count-clause-laid
returns-then-self-count-clause-laid c =
    (stays c.args.due c.args.self.now.file.now c.args.self.now.at c.end.result c.end.ensures).1

pub returns-clause-place : goal.returns-clause-place
returns-clause-place c =
    let taken = c.in_ok-placed.ensures.taken in
    moves c.args.self.now.file.now c.args.self.now.at _ c.in_ok-placed.placed (omega arith) taken
    (c.pass.ensures.place ∙ ap (λ (k : ℕ). c.args.self.now.at + size k) (c.kind.ensures (λ name. name.now) ∙ taken.kind))

pub returns-clause-laid : goal.returns-clause-laid
returns-clause-laid c = lies c.args.self.now.file.now c.args.self.now.at c.in_ok-placed.placed c.in_ok-placed.ensures.taken
