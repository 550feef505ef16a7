use Rattle.std.proofs.Common.{◌≡◌, ℕ, List, [], ◌∷◌, ◌++◌, Some, Ok, vec_items, Option, Result, sym, ap, ◌∙◌, subst, append-nil, rules}
use Rattle.bidfile.specs.Layout.{layout}
use Rattle.bidtext.specs.declared.expected.Expected.{Expected}
use Rattle.bidfile.specs.declared.records.Record.{Record}
use Rattle.bidtext.specs.Files.{listed}
use Rattle.bidtext.specs.RoundTrip.{own_item, line_said, Fitting}
use Rattle.bidtext.proofs.files.add_line.Goals as goal

pub returns-in_ok-push_record : goal.returns-in_ok-push_record
returns-in_ok-push_record c =
    let item = own_item c.in-Some.«record» in
    let was : c.read_line.result ≡ Ok c.in_ok-read.read = search (rules, c.map_err.ensures.cases, c.in_ok-read.was) in
    let is : c.read_line.result ≡ Ok (Some c.in-Some.«record») = was ∙ ap (λ (o : Option (Record (List ℕ))). Ok o) c.in-Some.is in (
      item ∷ [],
      ap (λ (r : Result (Option (Record (List ℕ))) Expected). listed (line_said r)) (sym c.read_line.ensures.value ∙ is),
      (subst Fitting is c.read_line.ensures.fits, tt),
      c.in_ok-push_record.ensures ∙ ap (λ (l : List ℕ). vec_items c.args.words.now ++ l) (sym (append-nil (layout item))),
    )
