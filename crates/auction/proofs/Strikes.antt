-- Striking: the kept calls made again are answered as they were, and the book is what they say.
use Rattle.std.proofs.Common.{◌≡◌, ℕ, zero, suc, ◌+◌, ◌<◌, Bool, List, [], ◌∷◌, ◌++◌, reverse, length, get_or, sym, refl, ap, ◌∙◌, subst, add-zero, arith}
use mathlib.Core.List.{reverse-cons}
use Rattle.std.proofs.lemmas.List.{map_push, same_lists, get_or_default}
use Rattle.auction.specs.declared.calls.Call.{Call}
use Rattle.auction.specs.declared.calls.Turn.{Turn}
use Rattle.auction.specs.History.{turn, played, ended, struck, kept_latest_first, all_exits, all_years, application_of, said_unit, said_from}
use Rattle.auction.specs.Promise.{Alike, Striking, calls_of}
use Rattle.auction.specs.State.{State}
use Rattle.auction.specs.Steps.{step, opened}
use Rattle.auction.proofs.Agreement.{Agrees, agrees}
use Rattle.auction.proofs.Ledgers.{Ledger, ledger, enrolled_said, gone_said, years_said}
use Rattle.auction.proofs.Runs.{ended_push, played_push}
use Rattle.auction.proofs.Trails.{replayed, Replays, follows}
use Rattle.book.specs.declared.terms.Application.{Application}
use Rattle.book.specs.declared.unit.Unit.{Unit as Row}
use Rattle.book.specs.Books.{no_unit}
use Rattle.curve.specs.Meaning.{Meaning}
use Rattle.ranking.specs.declared.exits.Exit.{Exit as Leaving}

calls_latest : (t : Turn) (kept : List Turn) → calls_of (reverse (t ∷ kept)) ≡ calls_of (reverse kept) ++ t.call ∷ []
calls_latest t kept = ap calls_of (reverse-cons t kept) ∙ map_push (λ u. u.call) (reverse kept) t

ended_again : (s : State) (kept : List Turn) → ended s (calls_of (reverse kept)) ≡ replayed s kept
ended_again s [] = refl
ended_again s (t ∷ kept) =
    ap (ended s) (calls_latest t kept) ∙ ended_push s (calls_of (reverse kept)) t.call
    ∙ ap (λ (z : State). (step z t.call).0) (ended_again s kept)

played_again : (s : State) (kept : List Turn) → Replays s kept → played s (calls_of (reverse kept)) ≡ reverse kept
played_again s [] r = refl
played_again s (t ∷ kept) r =
    let answer : (step (ended s (calls_of (reverse kept))) t.call).1 ≡ t.answer = ap (λ (z : State). (step z t.call).1) (ended_again s kept) ∙ sym r.1 in
    ap (played s) (calls_latest t kept) ∙ played_push s (calls_of (reverse kept)) t.call
    ∙ ap (λ (l : List Turn). l ++ turn t.call (step (ended s (calls_of (reverse kept))) t.call).1 ∷ []) (played_again s kept r.0)
    ∙ ap (λ a. reverse kept ++ turn t.call a ∷ []) answer
    ∙ sym (reverse-cons t kept)

-- the units said, one by one

said_length : (left years : List (ℕ × ℕ)) (n : ℕ) (applications : List Application) → length (said_from left years n applications) ≡ length applications
said_length left years n [] = refl
said_length left years n (a ∷ rest) = ap (λ k. suc k) (said_length left years (n + 1) rest)

said_at : (left years : List (ℕ × ℕ)) (n : ℕ) (applications : List Application) (i : ℕ) (d : Row) → i < length applications → get_or (said_from left years n applications) i d ≡ said_unit left years (n + i) (application_of applications i)
said_at left years n [] i d lt = absurd (omega arith)
said_at left years n (a ∷ rest) zero d lt = ap (λ (k : ℕ). said_unit left years k a) (sym (add-zero n))
said_at left years n (a ∷ rest) (suc i) d lt =
    let e : n + 1 + i ≡ n + suc i = omega arith in
    said_at left years (n + 1) rest i d (omega arith) ∙ ap (λ (k : ℕ). said_unit left years k (application_of rest i)) e

units_are_said : (start s : State) (l : Ledger) → Agrees start s l → s.book.units ≡ said_from l.gone l.years 0 l.enrolled
units_are_said start s l g =
    let us : List Row = s.book.units in
    let long = said_length l.gone l.years 0 l.enrolled in
    let count = g.count in
    same_lists us (said_from l.gone l.years 0 l.enrolled) (omega arith)
    (λ k d lt.
    let short : k < length l.enrolled = omega arith in
    let e : 0 + k ≡ k = omega arith in
    get_or_default us k d no_unit lt ∙ g.each_unit k lt ∙ sym (said_at l.gone l.years 0 l.enrolled k d short ∙ ap (λ (j : ℕ). said_unit l.gone l.years j (application_of l.enrolled k)) e))

pub striking : (number top spread threshold : ℕ) (m : Meaning) (ahead : Leaving → Leaving → Bool) (calls : List Call) → Striking (opened number top spread threshold m ahead) (played (opened number top spread threshold m ahead) calls) (ended (opened number top spread threshold m ahead) calls)
striking number top spread threshold m ahead calls =
    let start : State = opened number top spread threshold m ahead in
    let h : List Turn = played start calls in
    let kept : List Turn = kept_latest_first h in
    let f = follows start refl refl calls in
    let same : ended start (calls_of (struck h)) ≡ ended start calls = ended_again start kept ∙ sym f.is_replayed in
    let said : (replayed start kept).book.units ≡ said_from (ledger kept).gone (ledger kept).years 0 (ledger kept).enrolled = units_are_said start (replayed start kept) (ledger kept) (agrees number top spread threshold m ahead kept f.replays) in
    record {
      same_answers = played_again start kept f.replays;
      same_end = subst (λ (z : State). Alike (ended start (calls_of (struck h))) z) same (record { same_stage = refl; same_round = refl; same_book = refl; same_price = refl; same_awards = λ settled i. refl });
      book_said =
          ap (λ (z : State). z.book.units) f.is_replayed ∙ said
          ∙ ap (λ (x : List (ℕ × ℕ)). said_from x (ledger kept).years 0 (ledger kept).enrolled) (sym (gone_said kept))
          ∙ ap (λ (x : List (ℕ × ℕ)). said_from (all_exits (struck h)) x 0 (ledger kept).enrolled) (sym (years_said kept))
          ∙ ap (said_from (all_exits (struck h)) (all_years (struck h)) 0) (sym (enrolled_said kept));
    }
