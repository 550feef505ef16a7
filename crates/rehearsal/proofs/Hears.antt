-- A record that an auction hears, part by part, says what it says as a whole.
use Rattle.std.proofs.Common.{◌≡◌, ℕ, ◌+◌, Bool, true, false, cond, leb, ◌⊎◌, List, [], ◌∷◌, ◌++◌, length, Some, None, Option, sym, refl, ap, ◌∙◌, subst, inl, inr, append_assoc, append-nil, arith, eq-eqb, leb-false, leb-true}
use Rattle.std.specs.Option.{option_to_list}
use Rattle.std.proofs.lemmas.Bool.{false≢true}
use Rattle.auction.specs.declared.calls.Answer.{Answer}
use Rattle.auction.specs.declared.calls.Answer.TheVariants.{Refused, Enrolled, Begun, Entered, SteppedBack, ClosedShut, ClosedSettled, Opened}
use Rattle.auction.specs.declared.clocks.Stage.{Stage}
use Rattle.auction.specs.declared.clocks.Stage.TheVariants.{Enrolling, Open, Shut, Settled}
use Rattle.auction.specs.State.{State, stamp_of, floor_of, in_of, terms_of}
use Rattle.auction.specs.Steps.{own_clock, with_book, begun, went_on, enrolled, exited, served, went_back}
use Rattle.bidfile.specs.Items.{Item, terms, corner, unit, exit, years, step_back, close, item_kind}
use Rattle.book.specs.Asked.{enrol_questions, exit_questions, years_questions, back_questions}
use Rattle.book.specs.Books.{new_unit, with_unit, with_exit, with_years, stepped_back}
use Rattle.curve.specs.Questions.{first_no}
use Rattle.curve.specs.Words.{within}
use Rattle.listing.specs.declared.line.Line.{Line}
use Rattle.rehearsal.specs.Events.{Event, told, and_then, heard, begin_in, begin_for, next_in, calls_for, application}
use Rattle.rehearsal.specs.Hearing.{after_begin, after_next, begun_in, begun_for, gone_on, called, can_hear, has_call}
use Rattle.rehearsal.specs.Listing.{lines_from, lines_of, answer_lines}
use Rattle.rehearsal.specs.Saying.{first_line, stage_lines, settled_lines, spoken, in_full}
use Rattle.rehearsal.proofs.Clocks.{own_current, begun_own, went_on_own, closed_own, either_way}

-- lists

pub lines_append : (es fs : List Event) → lines_from (es ++ fs) ≡ lines_from es ++ lines_from fs
lines_append [] fs = refl
lines_append (e ∷ es) fs =
    ap (λ l. lines_of e ++ l) (lines_append es fs) ∙ sym (append_assoc (lines_of e) (lines_from es) (lines_from fs))

-- a Begin and a Next with the own clock print nothing

pub begin_is : (s : State) → s.stage ≡ Enrolling → ((after_begin s).stage ≡ Open) × ((begun s (stamp_of s)).1 ≡ Begun (record { number = s.number; round = 1 }))
unfolding after_begin
begin_is s e =
    let all = begun_own s (stamp_of s) (own_current s Enrolling e) in
    (ap (λ p. p.0.stage) all, ap (λ p. p.1) all)

pub next_is : (s : State) → s.stage ≡ Shut → ((after_next s).stage ≡ Open) × ((went_on s (stamp_of s)).1 ≡ Opened (record { number = s.number; round = s.round + 1 }))
unfolding after_next
next_is s e =
    let all = went_on_own s (stamp_of s) (own_current s Shut e) in
    (ap (λ p. p.0.stage) all, ap (λ p. p.1) all)

pub begin_told : (at : ℕ) (s : State) (k : Stage) → s.stage ≡ k → spoken (told at s (begin_in k)) ≡ (begun_in s k, [])
unfolding after_begin
begin_told at s Enrolling e =
    ap (λ a. ((begun s (stamp_of s)).0, answer_lines at s (begun s (stamp_of s)).0 a ++ [])) (begin_is s e).1
begin_told at s Open e = refl
begin_told at s Shut e = refl
begin_told at s Settled e = refl

next_told : (at : ℕ) (s : State) (k : Stage) → s.stage ≡ k → spoken (told at s (next_in k)) ≡ (gone_on s k, [])
unfolding after_next
next_told at s Enrolling e = refl
next_told at s Open e = refl
next_told at s Shut e =
    ap (λ a. ((went_on s (stamp_of s)).0, answer_lines at s (went_on s (stamp_of s)).0 a ++ [])) (next_is s e).1
next_told at s Settled e = refl

for_told : (at : ℕ) (s : State) (item : Item) (k : Stage) → s.stage ≡ k → (b : Bool) → spoken (told at s (cond b (begin_in k) [])) ≡ (cond b (begun_in s k) s, [])
for_told at s item k e true = begin_told at s k e
for_told at s item k e false = refl

-- a settlement's lines stay as they are where the next round is opened
quiet : (t : State) (k : Stage) → t.stage ≡ k → settled_lines (gone_on t k) ≡ stage_lines t k
quiet t Enrolling e = ap (stage_lines t) e
quiet t Open e = ap (stage_lines t) e
quiet t Shut e = ap (stage_lines (after_next t)) (next_is t e).0
quiet t Settled e = ap (stage_lines t) e

-- answers of calls that leave the stage as it was
abbrev Calm : Answer → Type 0
Calm (Refused n) = Unit {0}
Calm (Enrolled i) = Unit {0}
Calm (Begun k) = ⊥
Calm Entered = Unit {0}
Calm SteppedBack = Unit {0}
Calm (ClosedShut f k) = ⊥
Calm (ClosedSettled f k) = ⊥
Calm (Opened k) = ⊥

calm_lines : (at : ℕ) (s t : State) (a : Answer) → Calm a → answer_lines at s t a ≡ option_to_list (first_line at s a)
calm_lines at s t (Refused n) h = refl
calm_lines at s t (Enrolled i) h = refl
calm_lines at s t (Begun k) h = absurd h
calm_lines at s t Entered h = refl
calm_lines at s t SteppedBack h = refl
calm_lines at s t (ClosedShut f k) h = absurd h
calm_lines at s t (ClosedSettled f k) h = absurd h
calm_lines at s t (Opened k) h = absurd h

abbrev Still : State → State × Answer → Type 0
Still s p = (p.0.stage ≡ s.stage) × Calm p.1

at_unsettled : (t : State) (k : Stage) → (k ≡ Enrolling) ⊎ (k ≡ Open) → stage_lines t k ≡ []
at_unsettled t k (inl e) = ap (stage_lines t) e
at_unsettled t k (inr e) = ap (stage_lines t) e

-- an auction that has not settled prints the first line of a calm answer and no more
still_lines : (at : ℕ) (s : State) (p : State × Answer) → Still s p → (s.stage ≡ Enrolling) ⊎ (s.stage ≡ Open) → ◌≡◌ {A = State × List Line} (p.0, answer_lines at s p.0 p.1 ++ []) (p.0, option_to_list (first_line at s p.1) ++ stage_lines p.0 p.0.stage)
still_lines at s p h k =
    let lines : answer_lines at s p.0 p.1 ≡ option_to_list (first_line at s p.1) = calm_lines at s p.0 p.1 h.1 in
    let no_more : stage_lines p.0 p.0.stage ≡ [] = ap (stage_lines p.0) h.0 ∙ at_unsettled p.0 s.stage k in
    ap (λ l. (p.0, l ++ [])) lines ∙ ap (λ l. (p.0, option_to_list (first_line at s p.1) ++ l)) (sym no_more)

abbrev outcome : Option ℕ → State → State → Answer → State × Answer
outcome o s t a = elim o [ None ↦ (t, a) | Some n ↦ (s, Refused n) ]

still_outcome : (o : Option ℕ) (s t : State) (a : Answer) → t.stage ≡ s.stage → Calm a → Still s (outcome o s t a)
still_outcome None s t a e h = (e, h)
still_outcome (Some n) s t a e h = (refl, tt)

close_lines : (b : Bool) (at : ℕ) (s : State) → ◌≡◌ {A = State × List Line} ((either_way b s).0, answer_lines at s (either_way b s).0 (either_way b s).1 ++ []) ((either_way b s).0, option_to_list (first_line at s (either_way b s).1) ++ stage_lines (either_way b s).0 (either_way b s).0.stage)
close_lines true at s = ap (λ l. ((either_way true s).0, l)) (append-nil (answer_lines at s (either_way true s).0 (either_way true s).1))
close_lines false at s = refl

abbrev Says : ℕ → State → Item → State × Option Line → Type 0
Says at s item q = spoken (told at s (calls_for item)) ≡ (q.0, option_to_list q.1 ++ stage_lines q.0 q.0.stage)

close_says : (at : ℕ) (s : State) → s.stage ≡ Open → Says at s close (called at s close)
unfolding called
close_says at s e =
    let P : State × Answer → Type 0 = λ p. ◌≡◌ {A = State × List Line} (p.0, answer_lines at s p.0 p.1 ++ []) (p.0, option_to_list (first_line at s p.1) ++ stage_lines p.0 p.0.stage) in
    subst P (sym (closed_own s (stamp_of s) (own_current s Open e))) (close_lines (within s.curve (floor_of s) (in_of s)) at s)

never_enrolling : (k : Stage) → has_call k 7 ≡ true → k ≡ Enrolling → ⊥
never_enrolling k h e = false≢true (subst (λ z. has_call z 7 ≡ true) e h)

pub called_says : (at : ℕ) (s : State) (item : Item) → has_call s.stage (item_kind item) ≡ true → (s.stage ≡ Enrolling) ⊎ (s.stage ≡ Open) → Says at s item (called at s item)
unfolding called
called_says at s (terms t) h k = ap (λ l. (s, l)) (sym (at_unsettled s s.stage k))
called_says at s (corner c) h k = ap (λ l. (s, l)) (sym (at_unsettled s s.stage k))
called_says at s (unit u) h k =
    still_lines at s (enrolled s (stamp_of s) (application u)) (still_outcome (first_no (own_clock s Enrolling (stamp_of s) ∷ enrol_questions s.book (application u))) s (with_book s (with_unit s.book (new_unit (application u)))) (Enrolled (length s.book.units)) refl tt) k
called_says at s (exit x) h k =
    still_lines at s (exited s (stamp_of s) x.unit x.price) (still_outcome (first_no (own_clock s Open (stamp_of s) ∷ exit_questions (terms_of s) s.book x.unit x.price)) s (with_book s (with_exit s.book x.unit x.price)) Entered refl tt) k
called_says at s (years y) h k =
    still_lines at s (served s (stamp_of s) y.unit y.years) (still_outcome (first_no (own_clock s Open (stamp_of s) ∷ years_questions s.book y.unit y.years)) s (with_book s (with_years s.book y.unit y.years)) Entered refl tt) k
called_says at s step_back h k =
    still_lines at s (went_back s (stamp_of s)) (still_outcome (first_no (own_clock s Open (stamp_of s) ∷ back_questions s.book)) s (with_book s (stepped_back s.book)) SteppedBack refl tt) k
called_says at s close h (inl e) = absurd (never_enrolling s.stage h e)
called_says at s close h (inr e) = close_says at s e

-- what is said one after the other
compose : (a : List Event × State) (f g : State → List Event × State) (s t u : State) (j k l : List Line) → spoken a ≡ (s, j) → spoken (f s) ≡ (t, k) → spoken (g t) ≡ (u, l) → spoken (and_then (and_then a f) g) ≡ (u, (j ++ k) ++ l)
compose a f g s t u j k l ea ef eg =
    ap (λ z. ((g (f z).1).1, lines_from ((a.0 ++ (f z).0) ++ (g (f z).1).0))) (ap (λ p. p.0) ea)
    ∙ ap (λ z. ((g z).1, lines_from ((a.0 ++ (f s).0) ++ (g z).0))) (ap (λ p. p.0) ef)
    ∙ ap (λ z. (z, lines_from ((a.0 ++ (f s).0) ++ (g t).0))) (ap (λ p. p.0) eg)
    ∙ ap (λ z. (u, z)) (lines_append (a.0 ++ (f s).0) (g t).0 ∙ ap (λ z. z ++ lines_from (g t).0) (lines_append a.0 (f s).0))
    ∙ ap (λ z. (u, (z ++ lines_from (f s).0) ++ lines_from (g t).0)) (ap (λ p. p.1) ea)
    ∙ ap (λ z. (u, (j ++ z) ++ lines_from (g t).0)) (ap (λ p. p.1) ef)
    ∙ ap (λ z. (u, (j ++ k) ++ z)) (ap (λ p. p.1) eg)

-- where an auction can hear a record, it has a call for it once it has begun

callable_if : (s : State) (k : Stage) (kind : ℕ) → s.stage ≡ k → can_hear k kind ≡ true → (b : Bool) → leb 4 kind ≡ b → has_call (cond b (begun_in s k) s).stage kind ≡ true
callable_if s Enrolling kind e h true four = subst (λ z. has_call z kind ≡ true) (sym (begin_is s e).0) four
callable_if s Enrolling kind e h false four = subst (λ z. has_call z kind ≡ true) (sym e) (eq-eqb kind 3 (let low = leb-true 3 kind h in let high = leb-false 4 kind four in omega arith))
callable_if s Open kind e h true four = subst (λ z. has_call z kind ≡ true) (sym e) h
callable_if s Open kind e h false four = absurd (false≢true (sym four ∙ h))
callable_if s Shut kind e h b four = absurd (false≢true h)
callable_if s Settled kind e h b four = absurd (false≢true h)

pub callable : (s : State) (item : Item) (k : Stage) → s.stage ≡ k → can_hear k (item_kind item) ≡ true → has_call (begun_for s item k).stage (item_kind item) ≡ true
callable s item k e h = callable_if s k (item_kind item) e h (leb 4 (item_kind item)) refl

call_stage : (k : Stage) (kind : ℕ) → has_call k kind ≡ true → (k ≡ Enrolling) ⊎ (k ≡ Open)
call_stage Enrolling kind h = inl refl
call_stage Open kind h = inr refl
call_stage Shut kind h = absurd (false≢true h)
call_stage Settled kind h = absurd (false≢true h)

-- the whole record: s is the auction before it, t the auction after its call, with the first line of the answer
pub hears : (at : ℕ) (s t u : State) (item : Item) (k l : Stage) (line : Option Line) → s.stage ≡ k → can_hear k (item_kind item) ≡ true → ◌≡◌ {A = State × Option Line} (t, line) (called at (begun_for s item k) item) → t.stage ≡ l → u ≡ gone_on t l → in_full (u, line) ≡ spoken (heard at s item)
hears at s t u item k l line ek h et el eu =
    let first : State = begun_for s item k in
    let has : has_call first.stage (item_kind item) ≡ true = callable s item k ek h in
    let begins : spoken (told at s (begin_for item s.stage)) ≡ (first, []) = subst (λ z. spoken (told at s (begin_for item z)) ≡ (first, [])) (sym ek) (for_told at s item k ek (leb 4 (item_kind item))) in
    let calls : spoken (told at first (calls_for item)) ≡ (t, option_to_list line ++ stage_lines t t.stage) = subst (Says at first item) (sym et) (called_says at first item has (call_stage first.stage (item_kind item) has)) in
    let goes : spoken (told at t (next_in t.stage)) ≡ (gone_on t t.stage, []) = next_told at t t.stage refl in
    let whole = compose (told at s (begin_for item s.stage)) (λ z. told at z (calls_for item)) (λ z. told at z (next_in z.stage)) first t (gone_on t t.stage) [] (option_to_list line ++ stage_lines t t.stage) [] begins calls goes in
    let after : u ≡ gone_on t t.stage = eu ∙ ap (gone_on t) (sym el) in
    let lines : option_to_list line ++ settled_lines u ≡ (option_to_list line ++ stage_lines t t.stage) ++ [] =
    ap (λ z. option_to_list line ++ settled_lines z) after ∙ ap (λ z. option_to_list line ++ z) (quiet t t.stage refl) ∙ sym (append-nil (option_to_list line ++ stage_lines t t.stage)) in
    ap (λ z. (u, z)) lines ∙ ap (λ z. (z, (option_to_list line ++ stage_lines t t.stage) ++ [])) after ∙ sym whole
