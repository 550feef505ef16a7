use Rattle.std.proofs.Common.{◌≡◌, ℕ, List, Some, None, Ok, Option, Result, sym, ap, ◌∙◌, subst, rules}
use Rattle.bidfile.specs.Items.{Item}
use Rattle.bidfile.specs.Layout.{Fits}
use Rattle.bidtext.specs.declared.expected.Expected.{Expected}
use Rattle.bidfile.specs.declared.records.Record.{Record}
use Rattle.bidtext.specs.Lines.{line_record}
use Rattle.bidtext.specs.RoundTrip.{line_said, Fitting}
use Rattle.bidtext.specs.Texts.{line_text}
use Rattle.bidtext.proofs.LineReads.{reads_back}
use Rattle.bidtext.proofs.ReadFits.{read_fits}
use Rattle.bidtext.proofs.lines.read_line.Goals as goal

-- what holds of the record of a line
pub record Answered (line : List ℕ) (r : Result (Option (Record (List ℕ))) Expected) : Type 0 where
  pub value : r ≡ line_record line
  pub back : (item : Item) → Fits item → line ≡ line_text item → line_said r ≡ Ok (Some item)
  pub fits : Fitting r

answered : (line : List ℕ) (r : Result (Option (Record (List ℕ))) Expected) → r ≡ line_record line → Answered line r
answered line r e =
    record {
      value = e;
      back = λ item f same. ap line_said (e ∙ ap line_record same) ∙ reads_back item f;
      fits = subst Fitting (sym e) (read_fits line);
    }

pub returns-then-is_empty : goal.returns-then-is_empty
unfolding line_record
returns-then-is_empty c =
    let a = answered c.args.line.now (Ok None) (search rules) in
    record { value = a.value; back = a.back; fits = a.fits }

pub returns : goal.returns
unfolding line_record
returns c =
    let a = answered c.args.line.now c.map.result (search rules) in
    record { value = a.value; back = a.back; fits = a.fits }
