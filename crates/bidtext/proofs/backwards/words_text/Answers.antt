use Rattle.std.proofs.Common.{◌≡◌, ℕ, List, [], IfOk, Some, Ok, Option, ap, ◌∙◌, subst}
use Rattle.bidfile.specs.Found.{length_questions}
use Rattle.bidfile.specs.Items.{Item}
use Rattle.bidfile.specs.Reading.{fault_number, fault_of}
use Rattle.bidtext.specs.Kept.{file_kept, length_kept, with_text, listed_said}
use Rattle.bidtext.proofs.backwards.words_text.Goals as goal
use Rattle.curve.specs.Questions.{first_no}
use Rattle.std.specs.declared.alloc.AllocError.{AllocError}
use Rattle.bidtext.proofs.WordsKept.{text_back}

pub returns-in-Ok : goal.returns-in-Ok
unfolding file_kept
returns-in-Ok c =
    let file = c.args.file.now in
    let asked = c.in-Ok.ensures.refusal ∙ ap (λ (b : List ℕ). first_no (length_questions b)) c.new-reader.ensures.bytes in
    let value = subst (λ (k : List Item × Option (ℕ × ℕ)). IfOk c.list.result (λ l. listed_said l ≡ with_text [] k)) (ap (λ (o : Option ℕ). length_kept o file) asked) c.list.ensures in
    record { value = value; back = text_back c.layout_holds.ensures file c.list.result value }

pub returns-in-Err : goal.returns-in-Err
unfolding file_kept
returns-in-Err c =
    let file = c.args.file.now in
    let fault = c.in-Err.fault in
    let asked = c.in-Err.ensures.refusal ∙ ap (λ (b : List ℕ). first_no (length_questions b)) c.new-reader.ensures.bytes in
    let value =
    ap (λ (t : List ℕ). (t, Some (fault_of fault))) c.new.ensures.bytes
    ∙ ap (λ (p : ℕ). ([], Some (fault_number fault, p))) c.in-Err.ensures.place
    ∙ ap (λ (o : Option ℕ). with_text [] (length_kept o file)) asked in
    record { value = value; back = text_back {E = AllocError} c.layout_holds.ensures file (Ok (record { text = c.new.result; fault = Some fault })) value }
