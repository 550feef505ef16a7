use Rattle.std.proofs.Common.{◌≡◌, Ok, Err, sym, ap, ◌∙◌, subst, arith, rules}
use Rattle.bidfile.specs.declared.fault.FileFault.{FileFault}
use Rattle.bidfile.specs.Items.{item_of}
use Rattle.bidfile.specs.Reading.{told_one, told_record, read_out, asked, TakenOrNot, There}
use Rattle.std.proofs.lemmas.Result.{err_from_is_err_and}
use Rattle.bidfile.specs.Found.{found_at, item_at}
use Rattle.bidfile.proofs.Handing.{as_ok, as_err, handed_here, taken}
use Rattle.bidfile.proofs.reader.take.Goals as goal

pub returns : goal.returns
returns c =
    let file = c.args.file.now in
    let at = c.args.place in
    let was = as_ok c.read.result c.map_err.result _ c.in_ok-record.«record» c.map_err.ensures.cases c.in_ok-record.was in
    let answer : Ok (item_of c.in_ok-record.«record») ≡ read_out (asked c.args.due (found_at file at)) (item_at file at) = ap told_record (sym was) ∙ c.read.ensures.answer in
    record {
      answer = handed_here c.args.due file at (Ok (item_of c.in_ok-record.«record»)) c.requires answer;
      taken = taken c.args.due file at c.in_ok-record.«record» (λ i. let fits = c.type_inv.file i in omega arith) (subst (There file at) was c.read.ensures.there) answer;
    }

pub returns-in_err-record : goal.returns-in_err-record
returns-in_err-record c =
    let file = c.args.file.now in
    let at = c.args.place in
    let was = as_err c.read.result c.map_err.result _ c.in_err-record.field-0.0 c.map_err.ensures.cases c.in_err-record.was in
    let is : c.in_err-record.field-0.0 ≡ record { question = was.0; place = at } = search (rules, was) in
    let left = err_from_is_err_and c.from_residual.result c.from_residual.ensures.1 in
    record {
      answer = ap told_one left.1 ∙ ap (λ (f : FileFault). told_one (Err f)) (search (rules, left, is)) ∙ handed_here c.args.due file at (Err was.0) c.requires (ap told_record (sym was.1) ∙ c.read.ensures.answer);
      taken = subst (TakenOrNot file at) (sym left.1) tt;
    }
