use Rattle.std.proofs.Common.{◌≡◌, ℕ, ◌≤◌, [], ◌∷◌, length, Ok, Err, vec_items, eqb, sym, subst, rules, arith}
use Rattle.bidtext.specs.Files.{rows, TextRead}
use Rattle.bidtext.proofs.LinesRead.{text_trip}
use Rattle.bidtext.proofs.TextRows.{SoFar, start, next, done, faulty}
use Rattle.bidtext.proofs.files.text_words.Goals as goal
use Rattle.std.proofs.lemmas.Iterator.Consumers.{YieldsList-from_enumerate, YieldsList-turn, YieldsList-end}
use Rattle.std.proofs.lemmas.Iterator.Splits.{YieldsList-from_slice_split}
use Rattle.std.proofs.lemmas.List.{length-append}
use Rattle.std.proofs.lemmas.List.FromFn.{length-enumerate_from}
use Rattle.std.proofs.lemmas.Result.{err_from_is_err_and}

pub loop-before-init : goal.loop-before-init
loop-before-init c = start c.args.text.now _ c.new-words.ensures.items

pub loop-before-preserved : goal.loop-before-preserved
loop-before-preserved c =
    let lines = YieldsList-from_enumerate (YieldsList-from_slice_split _ (λ b. eqb b 10) c.args.text.now (cc) (cc) (cc) (λ x b q k. search rules)) (cc) in
    let turn = YieldsList-turn lines c.loop-before.yielded _ c.loop-before.yielded_by c.next.result c.next.new.self (c.in-Some.before, c.in-Some.line) c.in-Some.is c.next.ensures.steps in
    let added = c.in_ok-add_line.ensures in
    let all = sym (length-append c.loop-before.yielded ((c.in-Some.before, c.in-Some.line) ∷ [])) in
    subst (λ (n : ℕ). SoFar c.args.text.now n (vec_items c.add_line.new.words)) all
    (next c.args.text.now (length c.loop-before.yielded) _ c.loop-before.invariant c.in-Some.before c.in-Some.line.now turn.0 turn.1 _ added.0 added.1 added.2 added.3)

pub returns-in_err-add_line : goal.returns-in_err-add_line
returns-in_err-add_line c =
    let text = c.args.text.now in
    let lines = YieldsList-from_enumerate (YieldsList-from_slice_split _ (λ b. eqb b 10) text (cc) (cc) (cc) (λ x b q k. search rules)) (cc) in
    let turn = YieldsList-turn lines c.loop-before.yielded _ c.loop-before.yielded_by c.next.result c.next.new.self (c.in-Some.before, c.in-Some.line) c.in-Some.is c.next.ensures.steps in
    let fault = c.in_err-add_line.field-0.0 in
    let left : c.from_residual.result ≡ Err fault = search (rules, err_from_is_err_and, c.from_residual.ensures) in
    let value = subst (TextRead text) (sym left) (faulty text (length c.loop-before.yielded) _ c.loop-before.invariant c.in-Some.before c.in-Some.line.now turn.0 turn.1 (vec_items c.add_line.new.words) fault c.in_err-add_line.ensures) in
    record { value = value; back = text_trip text c.from_residual.result value }

pub returns : goal.returns
returns c =
    let text = c.args.text.now in
    let lines = YieldsList-from_enumerate (YieldsList-from_slice_split _ (λ b. eqb b 10) text (cc) (cc) (cc) (λ x b q k. search rules)) (cc) in
    let end = (YieldsList-end lines c.loop-before.yielded _ c.loop-before.yielded_by c.next.result c.next.new.self c.in-None.is c.next.ensures.steps).1 in
    let all : length (rows text) ≤ length c.loop-before.yielded = let n = length-enumerate_from 0 (rows text) in omega arith in
    let value = done text (length c.loop-before.yielded) _ c.loop-before.invariant c.layout_holds.ensures all in
    record { value = value; back = text_trip text (Ok c.loop-before.words) value }
