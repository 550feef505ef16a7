-- What the reader hands out at a place, and where it stands then.
use Rattle.std.proofs.Common.{◌≡◌, ℕ, ◌+◌, ◌<◌, ◌≤◌, Bool, true, false, cond, List, [], Some, None, Ok, Err, Option, Result, sym, refl, ap, ◌∙◌, subst, arith, rules, MatchResult, IsErrAnd}
use Rattle.bidfile.specs.declared.fault.FileFault.{FileFault}
use Rattle.bidfile.specs.declared.fault.FileQuestion.{FileQuestion}
use Rattle.bidfile.specs.declared.records.Due.{Due}
use Rattle.bidfile.specs.declared.records.Placed.{Placed}
use Rattle.bidfile.specs.declared.records.Record.{Record}
use Rattle.bidfile.specs.Found.{found, found_at, handed, item_at, later}
use Rattle.bidfile.specs.Items.{Item, item_of, size, may_end}
use Rattle.bidfile.specs.Reading.{told, asked, read_out, Laid, Moved, Stands, Taken}
use Rattle.bidfile.specs.Words.{words, kind_at}
use Rattle.std.specs.Borrow.{Bor}
use Rattle.bidfile.proofs.FoundPlaces.{found_more, found_none}
use Rattle.bidfile.proofs.Standing.{stands}
use Rattle.bidfile.proofs.WordBytes.{Bytes}
use Rattle.bidfile.proofs.ItemKinds.{placed, handed_placed, read_parts, found_kind}

-- at a place of the file
pub handed_here : (due : Due) (bytes : List ℕ) (at : ℕ) (r : Result Item FileQuestion) → at < words bytes
    → r ≡ read_out (asked due (found_at bytes at)) (item_at bytes at) → placed at r ≡ handed due (found bytes at)
handed_here due bytes at r lt e =
    ap (placed at) e
    ∙ (sym (handed_placed due (found_at bytes at) (found bytes (at + size (kind_at bytes at)))) ∙ ap (handed due) (sym (found_more bytes at lt)))

-- what was answered, before its question was mapped to a fault
module _ {A E F : Type 0} (r : Result A E) (s : Result A F) (P : E → F → Type 0) where
  pub as_ok : (x : A) → MatchResult r (λ y. s ≡ Ok y) (λ e. IsErrAnd s (P e)) → s ≡ Ok x → r ≡ Ok x
  as_ok x h e = search (rules, h, e)

  pub as_err : (f : F) → MatchResult r (λ y. s ≡ Ok y) (λ e. IsErrAnd s (P e)) → s ≡ Err f → (e : E) × (r ≡ Err e) × P e f
  as_err f h e = search (rules, h, e)

-- at its end
pub handed_end : (due : Due) (bytes : List ℕ) (at : ℕ) → words bytes ≤ at → handed due [] ≡ handed due (found bytes at)
handed_end due bytes at le = ap (handed due) (sym (found_none bytes at le))

ends : (b : Bool) (bytes : List ℕ) (at : ℕ) (r : Result (Option Placed) FileFault) → told r ≡ cond b (Ok None) (Err (26, 0))
    → Moved bytes at at r × Laid bytes r
ends b bytes at (Ok None) e = (refl, tt)
ends true bytes at (Ok (Some p)) e = let z : ◌≡◌ {A = ℕ} 0 1 = cc in absurd (omega arith)
ends false bytes at (Ok (Some p)) e = let z : ◌≡◌ {A = ℕ} 0 1 = cc in absurd (omega arith)
ends b bytes at (Err f) e = (refl, tt)

pub stays : (due : Due) (bytes : List ℕ) (at : ℕ) (r : Result (Option Placed) FileFault) → told r ≡ handed due []
    → Moved bytes at at r × Laid bytes r
stays due bytes at r e = ends (may_end due) bytes at r e

pub moves : (bytes : List ℕ) (at end : ℕ) (p : Placed) → at < words bytes → Taken bytes at p → end ≡ at + size (kind_at bytes at)
    → Moved bytes at end (Ok (Some p))
moves bytes at end p lt t e =
    (ap (found bytes) e ∙ ap later (sym (found_more bytes at lt)), e ∙ ap (λ (k : ℕ). at + size k) (sym t.kind), omega (arith, e, t.room))

pub lies : (bytes : List ℕ) (at : ℕ) (p : Placed) → Taken bytes at p → Laid bytes (Ok (Some p))
lies bytes at p t = subst (λ (place : ℕ). Stands bytes place (item_of p.«record»)) (sym t.place) t.laid

pub taken : (due : Due) (bytes : List ℕ) (at : ℕ) (r : Record (Bor (List ℕ))) → Bytes bytes → at + size (kind_at bytes at) ≤ words bytes
    → Ok (item_of r) ≡ read_out (asked due (found_at bytes at)) (item_at bytes at)
    → Taken bytes at (record { place = at; «record» = r })
taken due bytes at r small room is =
    let parts = read_parts due bytes at (item_of r) (sym is) in
    record {
      place = refl;
      kind = found_kind bytes at (item_of r) parts.known parts.is;
      room = room;
      laid = stands bytes at (item_of r) small parts.known parts.complete parts.is;
    }
