use Rattle.std.proofs.Common.{◌≡◌, ◌∙◌, refl, rules, arith}
use Rattle.std.specs.List.{fold}
use Rattle.bidtext.proofs.Numbers.{more, folded}
use Rattle.bidtext.proofs.values.value.Goals as goal

pub returns : goal.returns
returns c =
    let all : c.fold.result ≡ fold more 0 c.args.digits.now = search rules in
    all ∙ folded 0 0 c.args.digits.now (omega arith) refl
