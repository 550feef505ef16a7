-- What the kept turns of a history say, gathered along them: the ledger. And that it is what the definitions on histories say.
use Rattle.std.proofs.Common.{◌≡◌, ℕ, Bool, true, false, cond, List, [], ◌∷◌, ◌++◌, reverse, sym, refl, ap, ◌∙◌, subst}
use mathlib.Core.List.{reverse-cons}
use Rattle.std.specs.List.{flat_map}
use Rattle.std.proofs.lemmas.List.{append-nil, append_assoc}
use Rattle.auction.specs.declared.calls.Figures.{Figures}
use Rattle.auction.specs.declared.calls.Turn.{Turn}
use Rattle.auction.specs.State.{State}
use Rattle.auction.specs.History.{Saying, refused, enrols, opens, exits, serves, steps_back, closes, says, saying, application_in, exit_in, years_in, figures_in, opening, enrolments, all_exits, all_years, closings, since_opening}
use Rattle.auction.proofs.Moves.{Move, after, heard, moved}
use Rattle.auction.proofs.Trails.{keeps, replayed, Replays}
use Rattle.book.specs.declared.terms.Application.{Application}

-- `gone` are the exits, those of earlier rounds, `earlier`, before those of the round that is open or was last, `round`
pub record Ledger : Type 0 where
  pub enrolled : List Application
  pub gone : List (ℕ × ℕ)
  pub years : List (ℕ × ℕ)
  pub closed : List Figures
  pub earlier : List (ℕ × ℕ)
  pub round : List (ℕ × ℕ)

abbrev pub no_ledger : Ledger
no_ledger = record { enrolled = []; gone = []; years = []; closed = []; earlier = []; round = [] }

abbrev pub noted : Ledger → Saying → Ledger
noted l refused = l
noted l (enrols a) = record { enrolled = l.enrolled ++ a ∷ []; gone = l.gone; years = l.years; closed = l.closed; earlier = l.earlier; round = l.round }
noted l opens = record { enrolled = l.enrolled; gone = l.gone; years = l.years; closed = l.closed; earlier = l.gone; round = [] }
noted l (exits i price) = record { enrolled = l.enrolled; gone = l.gone ++ (i, price) ∷ []; years = l.years; closed = l.closed; earlier = l.earlier; round = l.round ++ (i, price) ∷ [] }
noted l (serves i years) = record { enrolled = l.enrolled; gone = l.gone; years = l.years ++ (i, years) ∷ []; closed = l.closed; earlier = l.earlier; round = l.round }
noted l steps_back = l
noted l (closes f settled) = record { enrolled = l.enrolled; gone = l.gone; years = l.years; closed = l.closed ++ f ∷ []; earlier = l.earlier; round = l.round }

-- of kept turns, latest first
abbrev pub ledger : List Turn → Ledger
ledger [] = no_ledger
ledger (t ∷ kept) = noted (ledger kept) (saying t)

-- the ledger in the words of histories

record Noted (l n : Ledger) (x : Saying) : Type 0 where
  enrolled_is : n.enrolled ≡ l.enrolled ++ application_in x
  gone_is : n.gone ≡ l.gone ++ exit_in x
  years_is : n.years ≡ l.years ++ years_in x
  closed_is : n.closed ≡ l.closed ++ figures_in x
  round_is : n.round ≡ cond (opening x) [] (l.round ++ exit_in x)

noted_is : (l : Ledger) (x : Saying) → Noted l (noted l x) x
noted_is l refused = record { enrolled_is = sym (append-nil _); gone_is = sym (append-nil _); years_is = sym (append-nil _); closed_is = sym (append-nil _); round_is = sym (append-nil _) }
noted_is l (enrols a) = record { enrolled_is = refl; gone_is = sym (append-nil _); years_is = sym (append-nil _); closed_is = sym (append-nil _); round_is = sym (append-nil _) }
noted_is l opens = record { enrolled_is = sym (append-nil _); gone_is = sym (append-nil _); years_is = sym (append-nil _); closed_is = sym (append-nil _); round_is = refl }
noted_is l (exits i price) = record { enrolled_is = sym (append-nil _); gone_is = refl; years_is = sym (append-nil _); closed_is = sym (append-nil _); round_is = refl }
noted_is l (serves i years) = record { enrolled_is = sym (append-nil _); gone_is = sym (append-nil _); years_is = refl; closed_is = sym (append-nil _); round_is = sym (append-nil _) }
noted_is l steps_back = record { enrolled_is = sym (append-nil _); gone_is = sym (append-nil _); years_is = sym (append-nil _); closed_is = sym (append-nil _); round_is = sym (append-nil _) }
noted_is l (closes f settled) = record { enrolled_is = sym (append-nil _); gone_is = sym (append-nil _); years_is = sym (append-nil _); closed_is = refl; round_is = sym (append-nil _) }

pub joined_push : {X A : Type 0} (f : X → List A) (xs : List X) (x : X) → flat_map f (xs ++ x ∷ []) ≡ flat_map f xs ++ f x
joined_push f [] x = append-nil (f x)
joined_push f (y ∷ xs) x = ap (λ l. f y ++ l) (joined_push f xs x) ∙ sym (append_assoc (f y) (flat_map f xs) (f x))

pub joined_latest : {A : Type 0} (f : Turn → List A) (t : Turn) (kept : List Turn) → flat_map f (reverse (t ∷ kept)) ≡ flat_map f (reverse kept) ++ f t
joined_latest f t kept = ap (flat_map f) (reverse-cons t kept) ∙ joined_push f (reverse kept) t

pub enrolled_said : (kept : List Turn) → enrolments (reverse kept) ≡ (ledger kept).enrolled
enrolled_said [] = refl
enrolled_said (t ∷ kept) =
    joined_latest (λ u. application_in (saying u)) t kept
    ∙ ap (λ l. l ++ application_in (saying t)) (enrolled_said kept)
    ∙ sym (noted_is (ledger kept) (saying t)).enrolled_is

pub gone_said : (kept : List Turn) → all_exits (reverse kept) ≡ (ledger kept).gone
gone_said [] = refl
gone_said (t ∷ kept) =
    joined_latest (λ u. exit_in (saying u)) t kept
    ∙ ap (λ l. l ++ exit_in (saying t)) (gone_said kept)
    ∙ sym (noted_is (ledger kept) (saying t)).gone_is

pub years_said : (kept : List Turn) → all_years (reverse kept) ≡ (ledger kept).years
years_said [] = refl
years_said (t ∷ kept) =
    joined_latest (λ u. years_in (saying u)) t kept
    ∙ ap (λ l. l ++ years_in (saying t)) (years_said kept)
    ∙ sym (noted_is (ledger kept) (saying t)).years_is

pub closed_said : (kept : List Turn) → closings (reverse kept) ≡ (ledger kept).closed
closed_said [] = refl
closed_said (t ∷ kept) =
    joined_latest (λ u. figures_in (saying u)) t kept
    ∙ ap (λ l. l ++ figures_in (saying t)) (closed_said kept)
    ∙ sym (noted_is (ledger kept) (saying t)).closed_is

round_latest : (b : Bool) (t : Turn) (kept : List Turn) → all_exits (reverse (cond b [] (t ∷ kept))) ≡ cond b [] (all_exits (reverse kept) ++ exit_in (saying t))
round_latest true t kept = refl
round_latest false t kept = joined_latest (λ u. exit_in (saying u)) t kept

pub round_said : (kept : List Turn) → all_exits (reverse (since_opening kept)) ≡ (ledger kept).round
round_said [] = refl
round_said (t ∷ kept) =
    round_latest (opening (saying t)) t (since_opening kept)
    ∙ ap (λ l. cond (opening (saying t)) [] (l ++ exit_in (saying t))) (round_said kept)
    ∙ sym (noted_is (ledger kept) (saying t)).round_is

-- what every kept move keeps holds of the state and the ledger of kept turns
pub along : (start : State) (P : State → Ledger → Type 0) → P start no_ledger → ((s : State) (l : Ledger) (move : Move s) → keeps (heard s move) ≡ true → P s l → P (after s move) (noted l (heard s move))) → (kept : List Turn) → Replays start kept → P (replayed start kept) (ledger kept)
along start P none more [] r = none
along start P none more (t ∷ kept) r =
    let s : State = replayed start kept in
    let m = moved s t.call in
    let said : saying t ≡ heard s m.move = ap (says t.call) r.1 ∙ m.saying_is in
    let at-move : P (after s m.move) (noted (ledger kept) (heard s m.move)) = more s (ledger kept) m.move (sym (ap keeps said) ∙ r.2) (along start P none more kept r.0) in
    subst (λ (z : State). P z (noted (ledger kept) (saying t))) (sym m.state_is)
    (subst (λ (x : Saying). P (after s m.move) (noted (ledger kept) x)) (sym said) at-move)
