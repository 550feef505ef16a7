-- Calls with the auction's own clock: they are not refused for it, and what they give is its own clock again.
use Rattle.std.proofs.Common.{◌≡◌, ℕ, ◌+◌, ◌-◌, Bool, true, false, cond, eqb, List, [], ◌∷◌, length, Some, None, Ok, Err, Option, Result, sym, refl, ap, ◌∙◌, subst, arith, eq-eqb, eqb-true}
use Rattle.std.proofs.lemmas.Bool.{and_parts, false≢true}
use Rattle.std.specs.Result.{IsOk}
use Rattle.auction.specs.Answers.{traded}
use Rattle.auction.specs.declared.calls.Answer.{Answer}
use Rattle.auction.specs.declared.calls.Answer.TheVariants.{Refused, Enrolled, Begun, Entered, SteppedBack, ClosedShut, ClosedSettled, Opened}
use Rattle.auction.specs.declared.calls.Figures.{Figures}
use Rattle.auction.specs.declared.clocks.Stage.{Stage}
use Rattle.auction.specs.declared.clocks.Stage.TheVariants.{Enrolling, Open, Shut, Settled}
use Rattle.auction.specs.declared.clocks.Stamp.{Stamp}
use Rattle.auction.specs.declared.refusal.Refusal.{Refusal}
use Rattle.auction.specs.State.{State, floor_of, terms_of, in_of, current, same_stage, stamp_of}
use Rattle.auction.specs.Steps.{auction_question, carried_out, own_clock, with_book, moved_to, figures_of, enrolled, begun, exited, served, went_back, closed, went_on}
use Rattle.book.specs.Asked.{enrol_questions, exit_questions, years_questions, back_questions}
use Rattle.book.specs.Books.{Books, new_unit, with_unit, with_exit, with_years, stepped_back, closed_book}
use Rattle.book.specs.declared.terms.Application.{Application}
use Rattle.curve.specs.declared.given_back.GivenBack.{GivenBack}
use Rattle.curve.specs.Questions.{Question, first_no}
use Rattle.curve.specs.Words.{within}
use Rattle.rehearsal.specs.Chosen.{numbers_of}
use Rattle.rehearsal.specs.declared.numbers.RoundNumbers.{RoundNumbers}

-- a clock of a stage is the auction's own, and these are the numbers of its round
abbrev pub Facts : Stage → Stamp → RoundNumbers → State → Type 0
Facts stage k n t = (current t stage k ≡ true) × (n ≡ numbers_of t)

pub same_stage_self : (k : Stage) → same_stage k k ≡ true
same_stage_self Enrolling = refl
same_stage_self Open = refl
same_stage_self Shut = refl
same_stage_self Settled = refl

pub same_stage_is : (a b : Stage) → same_stage a b ≡ true → a ≡ b
same_stage_is Enrolling Enrolling h = refl
same_stage_is Enrolling Open h = absurd (false≢true h)
same_stage_is Enrolling Shut h = absurd (false≢true h)
same_stage_is Enrolling Settled h = absurd (false≢true h)
same_stage_is Open Enrolling h = absurd (false≢true h)
same_stage_is Open Open h = refl
same_stage_is Open Shut h = absurd (false≢true h)
same_stage_is Open Settled h = absurd (false≢true h)
same_stage_is Shut Enrolling h = absurd (false≢true h)
same_stage_is Shut Open h = absurd (false≢true h)
same_stage_is Shut Shut h = refl
same_stage_is Shut Settled h = absurd (false≢true h)
same_stage_is Settled Enrolling h = absurd (false≢true h)
same_stage_is Settled Open h = absurd (false≢true h)
same_stage_is Settled Shut h = absurd (false≢true h)
same_stage_is Settled Settled h = refl

-- the auction's own numbers make its own clock
pub own_current : (s : State) (k : Stage) → s.stage ≡ k → current s k (stamp_of s) ≡ true
own_current s k e =
    let a : same_stage s.stage k ≡ true = subst (λ z. same_stage s.stage z ≡ true) e (same_stage_self s.stage) in
    let b : eqb s.number s.number ≡ true = eq-eqb s.number s.number refl in
    let d : eqb s.round s.round ≡ true = eq-eqb s.round s.round refl in
    simp (a, b, d)

pub own_stage : (s : State) (k : Stage) (c : Stamp) → current s k c ≡ true → s.stage ≡ k
own_stage s k c h = same_stage_is s.stage k (and_parts _ _ h).0

pub own_stamp : (s : State) (k : Stage) (c : Stamp) → current s k c ≡ true → c ≡ stamp_of s
own_stamp s k c h =
    let numbers = and_parts _ _ (and_parts _ _ h).1 in
    let n : s.number ≡ c.number = eqb-true s.number c.number numbers.0 in
    let r : s.round ≡ c.round = eqb-true s.round c.round numbers.1 in
    let make : ℕ → ℕ → Stamp = λ a b. record { number = a; round = b } in
    ap (λ a. make a c.round) (sym n) ∙ ap (λ b. make s.number b) (sym r)

-- an own clock is no ground to refuse
pub own_carried : (qs : List Question) (s t : State) (a : Answer) (k : Stage) (c : Stamp) → current s k c ≡ true → carried_out (own_clock s k c ∷ qs) s t a ≡ carried_out qs s t a
own_carried qs s t a k c h =
    ap (λ b. elim (cond b (first_no qs) (Some 9)) [ None ↦ (t, a) | Some n ↦ (s, Refused n) ]) h

-- a call that was put questions, the first "no" of which is known
abbrev outcome : Option ℕ → State → State → Answer → State × Answer
outcome o s t a = elim o [ None ↦ (t, a) | Some n ↦ (s, Refused n) ]

-- an auction and an answer that a call gives
abbrev pub Gives : State × Answer → State → Answer → Type 0
Gives p t a = ◌≡◌ {A = State × Answer} (t, a) p

-- what an accepted call gives
pub accepted_gives : {A K : Type 0} (done : A → Answer) (r : Result A (GivenBack K Refusal)) (x : A) (p : State × Answer) (t : State) → r ≡ Ok x → Gives p t (traded done r) → Gives p t (done x)
accepted_gives done r x p t is e = subst (λ q. Gives p t (traded done q)) is e

gives_state : (t u : State) (a b : Answer) → Gives (u, b) t a → t ≡ u
gives_state t u a b e = ap (λ p. p.0) e

gives_answer : (t u : State) (a b : Answer) → Gives (u, b) t a → a ≡ b
gives_answer t u a b e = ap (λ p. p.1) e

-- a call that changes the book alone, whatever it answers
book_keeps : (k : Stage) (c : Stamp) (n : RoundNumbers) (s : State) (b : Books) (o : Option ℕ) (a : Answer) (p : State × Answer) → p ≡ outcome o s (with_book s b) a → Facts k c n s → Facts k c n p.0
book_keeps k c n s b None a p e h = subst (λ q. Facts k c n q.0) (sym e) h
book_keeps k c n s b (Some m) a p e h = subst (λ q. Facts k c n q.0) (sym e) h

module _ (k : Stage) (c d : Stamp) (n : RoundNumbers) (s : State) (p : State × Answer) (h : Facts k c n s) where
  pub enrolled_keeps : (a : Application) → p ≡ enrolled s d a → Facts k c n p.0
  enrolled_keeps a e =
      book_keeps k c n s (with_unit s.book (new_unit a)) (first_no (own_clock s Enrolling d ∷ enrol_questions s.book a)) (Enrolled (length s.book.units)) p e h

  pub exited_keeps : (i price : ℕ) → p ≡ exited s d i price → Facts k c n p.0
  exited_keeps i price e =
      book_keeps k c n s (with_exit s.book i price) (first_no (own_clock s Open d ∷ exit_questions (terms_of s) s.book i price)) Entered p e h

  pub served_keeps : (i years : ℕ) → p ≡ served s d i years → Facts k c n p.0
  served_keeps i years e =
      book_keeps k c n s (with_years s.book i years) (first_no (own_clock s Open d ∷ years_questions s.book i years)) Entered p e h

-- calls that change the stage

pub begun_own : (s : State) (c : Stamp) → current s Enrolling c ≡ true → begun s c ≡ (moved_to s Open 1 s.top s.book, Begun (record { number = s.number; round = 1 }))
begun_own s c h = own_carried [] s _ _ Enrolling c h

pub went_on_own : (s : State) (c : Stamp) → current s Shut c ≡ true → went_on s c ≡ (moved_to s Open (s.round + 1) (floor_of s) s.book, Opened (record { number = s.number; round = s.round + 1 }))
went_on_own s c h = own_carried [] s _ _ Shut c h

abbrev pub settled_from : State → State
settled_from s = moved_to s Settled s.round s.top s.book

abbrev pub shut_from : State → State
shut_from s = moved_to s Shut s.round s.top (closed_book s.book)

-- a Close that was carried out
abbrev pub either_way : Bool → State → State × Answer
either_way b s =
    cond b (settled_from s, ClosedSettled (figures_of s) (stamp_of s)) (shut_from s, ClosedShut (figures_of s) (stamp_of s))

pub closed_own : (s : State) (c : Stamp) → current s Open c ≡ true → closed s c ≡ either_way (within s.curve (floor_of s) (in_of s)) s
closed_own s c h =
    ap (λ p. cond (within s.curve (floor_of s) (in_of s)) p (carried_out (own_clock s Open c ∷ []) s (shut_from s) (ClosedShut (figures_of s) (stamp_of s)))) (own_carried [] s (settled_from s) (ClosedSettled (figures_of s) (stamp_of s)) Open c h)
    ∙ ap (λ p. cond (within s.curve (floor_of s) (in_of s)) (settled_from s, ClosedSettled (figures_of s) (stamp_of s)) p) (own_carried [] s (shut_from s) (ClosedShut (figures_of s) (stamp_of s)) Open c h)

-- an auction that a call made, with its own clock
made_facts : (made t : State) (k : Stage) (c : Stamp) (n : RoundNumbers) → made.stage ≡ k → t ≡ made → c ≡ stamp_of made → n ≡ numbers_of made → Facts k c n t
made_facts made t k c n at et ec en =
    subst (λ u. Facts k c n u) (sym et) (subst (λ z. Facts k z n made) (sym ec) (own_current made k at, en))

shut_facts_if : (b : Bool) (s : State) (t : State) (f : Figures) (k : Stamp) (n : RoundNumbers) → n ≡ numbers_of s → Gives (either_way b s) t (ClosedShut f k) → Facts Shut k n t
shut_facts_if true s t f k n en e =
    let ea : ClosedShut f k ≡ ClosedSettled (figures_of s) (stamp_of s) = gives_answer t (settled_from s) _ _ e in
    let z : ◌≡◌ {A = ℕ} 0 1 = cc ea in
    absurd (omega arith)
shut_facts_if false s t f k n en e =
    let ea : ClosedShut f k ≡ ClosedShut (figures_of s) (stamp_of s) = gives_answer t (shut_from s) _ _ e in
    let ek : k ≡ stamp_of s = cc ea in
    made_facts (shut_from s) t Shut k n refl (gives_state t (shut_from s) _ _ e) ek en

pub shut_facts : (s : State) (c : Stamp) (t : State) (f : Figures) (k : Stamp) (n : RoundNumbers) → current s Open c ≡ true → n ≡ numbers_of s → Gives (closed s c) t (ClosedShut f k) → Facts Shut k n t
shut_facts s c t f k n h en e = shut_facts_if (within s.curve (floor_of s) (in_of s)) s t f k n en (e ∙ closed_own s c h)

settled_facts_if : (b : Bool) (s : State) (t : State) (f : Figures) (k : Stamp) (n : RoundNumbers) → n ≡ numbers_of s → Gives (either_way b s) t (ClosedSettled f k) → Facts Settled k n t
settled_facts_if false s t f k n en e =
    let ea : ClosedSettled f k ≡ ClosedShut (figures_of s) (stamp_of s) = gives_answer t (shut_from s) _ _ e in
    let z : ◌≡◌ {A = ℕ} 0 1 = cc ea in
    absurd (omega arith)
settled_facts_if true s t f k n en e =
    let ea : ClosedSettled f k ≡ ClosedSettled (figures_of s) (stamp_of s) = gives_answer t (settled_from s) _ _ e in
    let ek : k ≡ stamp_of s = cc ea in
    made_facts (settled_from s) t Settled k n refl (gives_state t (settled_from s) _ _ e) ek en

pub settled_facts : (s : State) (c : Stamp) (t : State) (f : Figures) (k : Stamp) (n : RoundNumbers) → current s Open c ≡ true → n ≡ numbers_of s → Gives (closed s c) t (ClosedSettled f k) → Facts Settled k n t
settled_facts s c t f k n h en e = settled_facts_if (within s.curve (floor_of s) (in_of s)) s t f k n en (e ∙ closed_own s c h)

never_refused_if : (b : Bool) (s : State) (t : State) (n : ℕ) → Gives (either_way b s) t (Refused n) → ⊥
never_refused_if true s t n e =
    let ea : Refused n ≡ ClosedSettled (figures_of s) (stamp_of s) = gives_answer t (settled_from s) _ _ e in
    let z : ◌≡◌ {A = ℕ} 0 1 = cc ea in
    omega arith
never_refused_if false s t n e =
    let ea : Refused n ≡ ClosedShut (figures_of s) (stamp_of s) = gives_answer t (shut_from s) _ _ e in
    let z : ◌≡◌ {A = ℕ} 0 1 = cc ea in
    omega arith

-- a Close with the own clock is accepted
pub close_accepted : {A K : Type 0} (done : A → Answer) (r : Result A (GivenBack K Refusal)) (s : State) (c : Stamp) (t : State) → current s Open c ≡ true → Gives (closed s c) t (traded done r) → IsOk r
close_accepted done (Ok a) s c t h e = refl
close_accepted done (Err kept) s c t h e =
    absurd (never_refused_if (within s.curve (floor_of s) (in_of s)) s t (auction_question kept.why) (e ∙ closed_own s c h))

-- a Close with the own clock is not refused
pub close_never_refused : (s : State) (c : Stamp) (t : State) (n : ℕ) → current s Open c ≡ true → Gives (closed s c) t (Refused n) → ⊥
close_never_refused s c t n h e =
    never_refused_if (within s.curve (floor_of s) (in_of s)) s t n (e ∙ closed_own s c h)

-- what a Begin and a Next with the own clock give is the auction's own clock, with the numbers of the round that it opens

pub begun_facts : (s : State) (c : Stamp) (t : State) (k : Stamp) (n : RoundNumbers) → current s Enrolling c ≡ true → n ≡ numbers_of s → Gives (begun s c) t (Begun k) → Facts Open k (record { round = 1; top = n.top; spread = n.spread }) t
begun_facts s c t k n h en e =
    let made : State = moved_to s Open 1 s.top s.book in
    let first : RoundNumbers → RoundNumbers = λ m. record { round = 1; top = m.top; spread = m.spread } in
    let all : Gives (made, Begun (stamp_of made)) t (Begun k) = e ∙ begun_own s c h in
    let ea : Begun k ≡ Begun (stamp_of made) = gives_answer t made _ _ all in
    let ek : k ≡ stamp_of made = cc ea in
    made_facts made t Open k (first n) refl (gives_state t made _ _ all) ek (ap first en)

pub went_on_facts : (s : State) (c : Stamp) (t : State) (k : Stamp) (n : RoundNumbers) → current s Shut c ≡ true → n ≡ numbers_of s → Gives (went_on s c) t (Opened k) → Facts Open k (record { round = n.round + 1; top = n.top - n.spread; spread = n.spread }) t
went_on_facts s c t k n h en e =
    let made : State = moved_to s Open (s.round + 1) (floor_of s) s.book in
    let after : RoundNumbers → RoundNumbers = λ m. record { round = m.round + 1; top = m.top - m.spread; spread = m.spread } in
    let all : Gives (made, Opened (stamp_of made)) t (Opened k) = e ∙ went_on_own s c h in
    let ea : Opened k ≡ Opened (stamp_of made) = gives_answer t made _ _ all in
    let ek : k ≡ stamp_of made = cc ea in
    made_facts made t Open k (after n) refl (gives_state t made _ _ all) ek (ap after en)

-- whatever holds of an auction before a call and after it holds, whatever the call answers

pub carried_keeps : (K : State → Type 0) (o : Option ℕ) (s t : State) (a : Answer) → K s → K t → K (outcome o s t a).0
carried_keeps K None s t a ks kt = kt
carried_keeps K (Some n) s t a ks kt = ks

pub enrolled_keeps_any : (K : State → Type 0) (s : State) (c : Stamp) (a : Application) (p : State × Answer) → p ≡ enrolled s c a → K s → K (with_book s (with_unit s.book (new_unit a))) → K p.0
enrolled_keeps_any K s c a p e ks kt =
    subst (λ q. K q.0) (sym e) (carried_keeps K (first_no (own_clock s Enrolling c ∷ enrol_questions s.book a)) s (with_book s (with_unit s.book (new_unit a))) (Enrolled (length s.book.units)) ks kt)

pub exited_keeps_any : (K : State → Type 0) (s : State) (c : Stamp) (i price : ℕ) (p : State × Answer) → p ≡ exited s c i price → K s → K (with_book s (with_exit s.book i price)) → K p.0
exited_keeps_any K s c i price p e ks kt =
    subst (λ q. K q.0) (sym e) (carried_keeps K (first_no (own_clock s Open c ∷ exit_questions (terms_of s) s.book i price)) s (with_book s (with_exit s.book i price)) Entered ks kt)

pub served_keeps_any : (K : State → Type 0) (s : State) (c : Stamp) (i n : ℕ) (p : State × Answer) → p ≡ served s c i n → K s → K (with_book s (with_years s.book i n)) → K p.0
served_keeps_any K s c i n p e ks kt =
    subst (λ q. K q.0) (sym e) (carried_keeps K (first_no (own_clock s Open c ∷ years_questions s.book i n)) s (with_book s (with_years s.book i n)) Entered ks kt)

pub went_back_keeps : (K : State → Type 0) (s : State) (c : Stamp) (p : State × Answer) → p ≡ went_back s c → K s → K (with_book s (stepped_back s.book)) → K p.0
went_back_keeps K s c p e ks kt =
    subst (λ q. K q.0) (sym e) (carried_keeps K (first_no (own_clock s Open c ∷ back_questions s.book)) s (with_book s (stepped_back s.book)) SteppedBack ks kt)
