-- The lines that a run has yet to give out, over one of its steps and at its start.
use Rattle.std.proofs.Common.{◌≡◌, ℕ, ◌+◌, ◌-◌, ◌%◌, ◌<◌, ◌≤◌, Bool, true, false, cond, ◌&&◌, eqb, leb, List, [], ◌∷◌, ◌++◌, length, Some, None, Option, sym, refl, ap, ◌∙◌, arith, le-leb, leb-true}
use Rattle.std.proofs.lemmas.Bool.{and_parts, false≢true}
use Rattle.bidfile.specs.declared.fault.FileFault.{FileFault}
use Rattle.bidfile.specs.Found.{Found, found, length_questions}
use Rattle.bidfile.specs.Reading.{fault_number}
use Rattle.bidfile.specs.Words.{words}
use Rattle.curve.specs.Questions.{first_no}
use Rattle.listing.specs.declared.fault.Fault.{Fault}
use Rattle.listing.specs.declared.fault.Fault.TheVariants as fault
use Rattle.listing.specs.declared.fault.Layer.TheVariants.{File}
use Rattle.listing.specs.declared.line.Line.{Line}
use Rattle.listing.specs.declared.line.Line.TheVariants as line
use Rattle.listing.specs.Faults.{fault_line}
use Rattle.rehearsal.specs.declared.progress.Progress.{Progress as Coded}
use Rattle.rehearsal.specs.declared.progress.Progress.TheVariants as coded
use Rattle.rehearsal.specs.declared.storage.Storage.{Storage}
use Rattle.rehearsal.specs.Events.{events}
use Rattle.rehearsal.specs.Left.{lines_ahead}
use Rattle.rehearsal.specs.Listing.{listing, lines_from}
use Rattle.rehearsal.specs.Progress.{fresh, is_over}
use Rattle.rehearsal.specs.Takes.{progress_of}
use Rattle.rehearsal.proofs.Advances.{over_ahead}

-- a step that a record, or the end of the file, was read in

pub went_lines : (after before lines : List Line) (q p taken : Coded) (bytes now : List ℕ) (end at : ℕ) → after ≡ lines → now ≡ bytes → lines ++ lines_ahead q (found bytes end) ≡ lines_ahead taken (found bytes at) → taken ≡ p → before ≡ [] → after ++ lines_ahead q (found now end) ≡ before ++ lines_ahead p (found bytes at)
went_lines after before lines q p taken bytes now end at a n e t b =
    ap (λ z. z ++ lines_ahead q (found now end)) a
    ∙ ap (λ z. lines ++ lines_ahead q (found z end)) n
    ∙ e
    ∙ ap (λ z. lines_ahead z (found bytes at)) t
    ∙ ap (λ z. z ++ lines_ahead p (found bytes at)) (sym b)

pub falls : (b c : Bool) (n m end at : ℕ) → n ≡ m → c ≡ false → (b ≡ false → (at < end) × (end ≤ m)) → cond b 0 (n - end + 1) < cond c 0 (m - at + 1)
falls b true n m end at e on further = absurd (false≢true (sym on))
falls true false n m end at e on further = omega arith
falls false false n m end at e on further =
    let parts = further refl in
    let past : at < end = parts.0 in
    let within : end ≤ m = parts.1 in
    omega arith

-- a step that ended in a fault

pub fault_lines : (after before : List Line) (f : Fault) (q p taken : Coded) (bytes now : List ℕ) (end at : ℕ) → after ≡ fault_line f ∷ [] → q ≡ coded.Over → fault_line f ∷ [] ≡ lines_ahead taken (found bytes at) → taken ≡ p → before ≡ [] → after ++ lines_ahead q (found now end) ≡ before ++ lines_ahead p (found bytes at)
fault_lines after before f q p taken bytes now end at a o e t b =
    ap (λ z. z ++ lines_ahead q (found now end)) a
    ∙ ap (λ z. fault_line f ∷ lines_ahead z (found now end)) o
    ∙ ap (λ z. fault_line f ∷ z) (over_ahead (found now end))
    ∙ e
    ∙ ap (λ z. lines_ahead z (found bytes at)) t
    ∙ ap (λ z. z ++ lines_ahead p (found bytes at)) (sym b)

pub over_falls : (q : Coded) (c : Bool) (n m end at : ℕ) → q ≡ coded.Over → c ≡ false → cond (is_over (progress_of q)) 0 (n - end + 1) < cond c 0 (m - at + 1)
over_falls q true n m end at o on = absurd (false≢true (sym on))
over_falls q false n m end at o on =
    let zero' : cond (is_over (progress_of q)) 0 (n - end + 1) ≡ 0 = ap (λ z. cond (is_over (progress_of z)) 0 (n - end + 1)) o in
    omega arith

-- the end of the listing

pub nothing_ahead : (p : Coded) (fs : List Found) → is_over (progress_of p) ≡ true → lines_ahead p fs ≡ []
nothing_ahead (coded.Fresh s) fs h = absurd (false≢true h)
nothing_ahead (coded.Gathering g) fs h = absurd (false≢true h)
nothing_ahead (coded.Going x) fs h = absurd (false≢true h)
nothing_ahead coded.Over fs h = over_ahead fs

-- the start

abbrev listing_by : Option ℕ → List ℕ → List Line
listing_by o bytes = elim o [ Some n ↦ line.Fault File n 0 ∷ [] | None ↦ lines_from (events fresh (found bytes 0)) ]

asked_yes : (b : Bool) → None ≡ cond {A = Option ℕ} b None (Some 23) → b ≡ true
asked_yes true e = refl
asked_yes false e = let z : ◌≡◌ {A = ℕ} 0 1 = cc e in absurd (omega arith)

pub short_file : (bytes : List ℕ) → None ≡ first_no (length_questions bytes) → leb (words bytes) 16383 ≡ true
short_file bytes e =
    let yes' = asked_yes (eqb (length bytes % 4) 0 && leb (length bytes) 65532) e in
    let short = leb-true (length bytes) 65532 (and_parts (eqb (length bytes % 4) 0) (leb (length bytes) 65532) yes').1 in
    le-leb (words bytes) 16383 (omega arith)

pub listed_fault : (bytes now : List ℕ) (f : FileFault) (l : Line) (lines : List Line) (fs : List Found) → now ≡ bytes → Some (fault_number f) ≡ first_no (length_questions now) → f.place ≡ 0 → l ≡ fault_line (fault.File f) → lines ≡ l ∷ [] → lines ++ lines_ahead coded.Over fs ≡ listing bytes
listed_fault bytes now f l lines fs n e place is w =
    ap (λ z. z ++ lines_ahead coded.Over fs) w
    ∙ ap (λ z. l ∷ z) (over_ahead fs)
    ∙ ap (λ z. z ∷ []) is
    ∙ ap (λ z. line.Fault File (fault_number f) z ∷ []) place
    ∙ ap (λ z. listing_by z now) e
    ∙ ap listing n

pub listed_lines : (bytes now : List ℕ) (s : Storage) (lines : List Line) (at : ℕ) → now ≡ bytes → None ≡ first_no (length_questions now) → at ≡ 0 → lines ≡ [] → lines ++ lines_ahead (coded.Fresh s) (found now at) ≡ listing bytes
unfolding lines_ahead
listed_lines bytes now s lines at n e start w =
    ap (λ z. z ++ lines_from (events fresh (found now at))) w
    ∙ ap (λ z. lines_from (events fresh (found now z))) start
    ∙ ap (λ z. listing_by z now) e
    ∙ ap listing n
