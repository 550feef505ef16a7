use Rattle.std.proofs.Common.{ℕ, ◌≤◌, leb, drop, sym, ap, ◌∙◌, arith}
use Rattle.bidtext.specs.Letters.{space}
use Rattle.std.specs.List.{list_all}
use Rattle.bidtext.specs.Names.{is_hexed}
use Rattle.bidtext.specs.Texts.{marks}
use Rattle.bidtext.proofs.NameTexts.{plain_rest}
use Rattle.bidtext.proofs.texts.is_plain.Goals as goal
use Rattle.std.proofs.lemmas.List.{take_rest}
use Rattle.std.proofs.lemmas.Bool.{le-leb}

pub returns-then-marks-ge1 : goal.returns-then-marks-ge1
returns-then-marks-ge1 c =
    let name = c.args.name.now in
    let some : 1 ≤ marks name = omega (arith, c.marks-marks.ensures.count) in
    c.are_spaces.ensures
    ∙ ap (list_all space) (take_rest name c.marks-marks.result ∙ ap (λ (i : ℕ). drop i name) c.marks-marks.ensures.count)
    ∙ sym (plain_rest (is_hexed name) (leb 1 (marks name)) (list_all space (drop (marks name) name)) (sym c.if-is_hexed.ensures) (le-leb 1 (marks name) some))
