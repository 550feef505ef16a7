use Rattle.std.proofs.Common.{◌≡◌, ℕ, ◌<◌, List, [], ◌∷◌, ◌++◌, Ok, Err, Option, Result, sym, refl, ap, ◌∙◌, subst, append-nil, arith}
use Rattle.std.specs.Option.{option_to_list}
use Rattle.std.proofs.lemmas.Result.{err_from_is_err_and}
use Rattle.std.proofs.lemmas.Bool.{false≢true}
use Rattle.bidfile.specs.declared.records.Due.{Due}
use Rattle.bidfile.specs.declared.records.Placed.{Placed}
use Rattle.bidfile.specs.Found.{Found, found, handed}
use Rattle.bidfile.specs.Items.{item_of, item_kind}
use Rattle.bidfile.specs.Reading.{told, Moved, Laid}
use Rattle.bidfile.specs.Words.{words}
use Rattle.bidfile.proofs.FoundPlaces.{size_some}
use Rattle.listing.specs.declared.fault.Fault.{Fault}
use Rattle.listing.specs.declared.line.Line.{Line}
use Rattle.listing.specs.Faults.{fault_line}
use Rattle.rehearsal.specs.declared.progress.Progress.{Progress as Coded}
use Rattle.rehearsal.specs.declared.progress.Progress.TheVariants as coded
use Rattle.rehearsal.specs.Left.{advanced_as, Further}
use Rattle.rehearsal.specs.Progress.{due}
use Rattle.rehearsal.specs.Takes.{progress_of}
use Rattle.rehearsal.proofs.Advances.{ahead_fault, ahead_end, takeable, record_lines, record_fault, record_sound, sound_both, over_ahead}
use Rattle.rehearsal.proofs.run.lines.advance.Goals as goal

-- what the reader handed out, of the records that were in turn
handed_out : (p : Coded) (d : Due) (read is : Option Placed) (fs : List Found) → d ≡ due (progress_of p) → told (Ok read) ≡ handed d fs → read ≡ is → told (Ok is) ≡ handed (due (progress_of p)) fs
handed_out p d read is fs turn answer e = subst (λ (o : Option Placed). told (Ok o) ≡ handed d fs) e answer ∙ ap (λ (k : Due). handed k fs) turn

-- a fault that `?` passed on
record Passed (r : Result (Coded × Option Line) Fault) (f : Fault) : Type 0 where
  lines : (fs : List Found) → advanced_as r fs ≡ fault_line f ∷ []
  further : (at end n : ℕ) → Further at end n r

passed : (r : Result (Coded × Option Line) Fault) (y f : Fault) → r ≡ Err y → y ≡ f → Passed r f
passed r y f is same =
    record {
      lines = λ fs. ap (λ (z : Result (Coded × Option Line) Fault). advanced_as z fs) is ∙ ap (λ (g : Fault). fault_line g ∷ []) same;
      further = λ at end n. subst (λ (z : Result (Coded × Option Line) Fault). Further at end n z) (sym is) tt;
    }

pub returns-in_err-placed : goal.returns-in_err-placed
returns-in_err-placed c =
    let e = err_from_is_err_and c.from_residual.result c.from_residual.ensures.1 in
    let p = passed c.from_residual.result _ _ e.1 e.2 in
    let bytes = c.args.reader.now.file.now in
    let fs = found bytes c.args.reader.now.at in
    record {
      lines = p.lines (found bytes c.next.new.self.at) ∙ sym (ahead_fault c.args.progress fs _ _ c.requires.1 (c.in_err-placed.ensures.answer ∙ ap (λ (d : Due). handed d fs) c.due.ensures));
      file = c.next.ensures.file;
      bytes = c.next.ensures.bytes;
      place = p.further c.args.reader.now.at c.next.new.self.at (words bytes);
    }

pub take-requires : goal.take-requires
take-requires c =
    let bytes = c.args.reader.now.file.now in
    let at = c.args.reader.now.at in
    let end = c.next.new.self.at in
    let out = handed_out c.args.progress c.due.result _ _ (found bytes at) c.due.ensures c.in_ok-placed.ensures.answer c.in-Some.is in
    let moved = subst (λ (o : Option Placed). Moved bytes at end (Ok o)) c.in-Some.is c.in_ok-placed.ensures.place in
    let laid = subst (λ (o : Option Placed). Laid bytes (Ok o)) c.in-Some.is c.in_ok-placed.ensures.laid in
    takeable c.args.progress bytes at end c.in-Some.placed.place (item_of c.in-Some.placed.«record») c.requires.0 c.requires.1 out moved.1 moved.2 laid

pub returns-in_err-take-in-Some : goal.returns-in_err-take-in-Some
returns-in_err-take-in-Some c =
    let e = err_from_is_err_and c.from_residual-in_err-take-in-Some.result c.from_residual-in_err-take-in-Some.ensures.1 in
    let p = passed c.from_residual-in_err-take-in-Some.result _ _ e.1 e.2 in
    let bytes = c.args.reader.now.file.now in
    let fs = found bytes c.args.reader.now.at in
    let out = handed_out c.args.progress c.due.result _ _ fs c.due.ensures c.in_ok-placed.ensures.answer c.in-Some.is in
    record {
      lines = p.lines (found bytes c.next.new.self.at) ∙ record_fault c.args.progress _ fs c.in-Some.placed.place (item_of c.in-Some.placed.«record») c.requires.1 out c.in_err-take-in-Some.ensures.lines;
      file = c.next.ensures.file;
      bytes = c.next.ensures.bytes;
      place = p.further c.args.reader.now.at c.next.new.self.at (words bytes);
    }

pub returns-in_err-line-in-None : goal.returns-in_err-line-in-None
returns-in_err-line-in-None c =
    let e = err_from_is_err_and c.from_residual-in_err-line-in-None.result c.from_residual-in_err-line-in-None.ensures.1 in
    let p = passed c.from_residual-in_err-line-in-None.result _ _ e.1 e.2 in
    let bytes = c.args.reader.now.file.now in
    let fs = found bytes c.args.reader.now.at in
    let out = handed_out c.args.progress c.due.result _ _ fs c.due.ensures c.in_ok-placed.ensures.answer c.in-None.is in
    record {
      lines = p.lines (found bytes c.next.new.self.at) ∙ c.in_err-line-in-None.ensures ∙ sym (ahead_end c.args.progress fs c.requires.1 out);
      file = c.next.ensures.file;
      bytes = c.next.ensures.bytes;
      place = p.further c.args.reader.now.at c.next.new.self.at (words bytes);
    }

pub returns-in_ok-take-in-Some : goal.returns-in_ok-take-in-Some
returns-in_ok-take-in-Some c =
    let bytes = c.args.reader.now.file.now in
    let at : ℕ = c.args.reader.now.at in
    let fs = found bytes at in
    let end : ℕ = c.next.new.self.at in
    let item = item_of c.in-Some.placed.«record» in
    let after = c.in_ok-take-in-Some.field-0 in
    let out = handed_out c.args.progress c.due.result _ _ fs c.due.ensures c.in_ok-placed.ensures.answer c.in-Some.is in
    let moved = subst (λ (o : Option Placed). Moved bytes at end (Ok o)) c.in-Some.is c.in_ok-placed.ensures.place in
    let one = size_some (item_kind item) in
    let further : at < end = omega (arith, moved.1, one) in
    record {
      lines = record_lines c.args.progress after.0 after.1 fs (found bytes end) c.in-Some.placed.place item c.requires.1 out moved.0 c.in_ok-take-in-Some.ensures.lines;
      file = c.next.ensures.file;
      bytes = c.next.ensures.bytes;
      place = (record_sound c.args.progress after.0 after.1 at end (words bytes) c.in-Some.placed.place item c.requires.0 c.in_ok-take-in-Some.ensures.lines c.in_ok-take-in-Some.ensures.stage moved.1, λ on. (further, moved.2));
    }

pub returns-in_ok-line-in-None : goal.returns-in_ok-line-in-None
returns-in_ok-line-in-None c =
    let bytes = c.args.reader.now.file.now in
    let fs = found bytes c.args.reader.now.at in
    let end = c.next.new.self.at in
    let rest = found bytes end in
    let line = option_to_list c.in_ok-line-in-None.line in
    let out = handed_out c.args.progress c.due.result _ _ fs c.due.ensures c.in_ok-placed.ensures.answer c.in-None.is in
    record {
      lines = ap (λ (z : List Line). (line ++ []) ++ z) (over_ahead rest) ∙ append-nil (line ++ []) ∙ append-nil line ∙ c.in_ok-line-in-None.ensures ∙ sym (ahead_end c.args.progress fs c.requires.1 out);
      file = c.next.ensures.file;
      bytes = c.next.ensures.bytes;
      place = (sound_both coded.Over end (words bytes) refl refl, λ on. absurd (false≢true (sym on)));
    }
