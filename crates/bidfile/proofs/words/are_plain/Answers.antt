use Rattle.std.proofs.Common.{◌≡◌, ◌-◌, arith, rules}
use Rattle.std.proofs.iter.runs.Sources.{ranges, range_runs}
use Rattle.bidfile.proofs.PlainWords.{plain_by}
use Rattle.bidfile.proofs.words.are_plain.Goals as goal

pub returns : goal.returns
returns c =
    let p = c.all.ensures.runs.0 in
    plain_by c.all.result (c.args.to - c.args.from) c.args.file.now c.args.from
    (λ e j lt.
    let long : p.len ≡ c.args.to - c.args.from = search (rules, ranges, e) in
    let here = (range_runs p p.seen).3 j (omega arith) in
    search (rules, ranges, e, here))
    (λ e. search (rules, ranges, e))
