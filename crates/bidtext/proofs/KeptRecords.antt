-- Records that are listed one by one. Assumes nothing.
use Rattle.std.proofs.Common.{◌≡◌, ℕ, ◌-◌, ◌<◌, ◌≤◌, List, [], ◌∷◌, ◌++◌, Some, None, Ok, Err, Option, Result, sym, ap, ◌∙◌, subst, append_assoc, append-nil, arith}
use Rattle.bidfile.specs.declared.fault.FileFault.{FileFault}
use Rattle.bidfile.specs.declared.records.Placed.{Placed}
use Rattle.bidfile.specs.Found.{Found, found, later}
use Rattle.bidfile.specs.Items.{Item, item_of, item_kind, size}
use Rattle.bidfile.specs.Reading.{told, fault_of, Moved}
use Rattle.bidfile.specs.Words.{words}
use Rattle.bidtext.specs.Kept.{handed_any, kept_with, kept, text_line, with_text}
use Rattle.std.proofs.lemmas.Bool.Decides.{nat_tests}
use Rattle.std.specs.List.{flat_map}

-- what is kept is the next record, and then what is kept of the rest
kept_next : (fs : List Found) (r : Result (Option (ℕ × Item)) (ℕ × ℕ)) → r ≡ handed_any fs → kept fs ≡ kept_with r (kept (later fs))
kept_next [] r e = ap (λ (x : Result (Option (ℕ × Item)) (ℕ × ℕ)). kept_with x ([], None)) (sym e)
kept_next (f ∷ fs) r e = ap (λ (x : Result (Option (ℕ × Item)) (ℕ × ℕ)). kept_with x (kept fs)) (sym e)

size_some : (kind : ℕ) → 1 ≤ size kind
size_some kind = grind (arith, nat_tests)

-- the text so far, and the place in the file up to which it goes
pub record Listing (file bytes : List ℕ) (at : ℕ) (text : List ℕ) : Type 0 where
  pub same : bytes ≡ file
  pub left : with_text text (kept (found file at)) ≡ with_text [] (kept (found file 0))

pub listing_start : (file bytes text : List ℕ) (at : ℕ) → bytes ≡ file → at ≡ 0 → text ≡ [] → Listing file bytes at text
listing_start file bytes text at e f g =
    record { same = e; left = ap (λ (n : ℕ). with_text text (kept (found file n))) f ∙ ap (λ (t : List ℕ). with_text t (kept (found file 0))) g }

module _ (file bytes : List ℕ) (at : ℕ) (text : List ℕ) (s : Listing file bytes at text) where
  here : (r : Result (Option Placed) FileFault) → told r ≡ handed_any (found bytes at) → with_text text (kept_with (told r) (kept (later (found file at)))) ≡ with_text [] (kept (found file 0))
  here r e =
      ap (with_text text) (sym (kept_next (found file at) (told r) (e ∙ ap (λ (b : List ℕ). handed_any (found b at)) s.same))) ∙ s.left

  -- one more line
  pub listing_more : (p : Placed) (end : ℕ) (bytes' new : List ℕ) → told (Ok (Some p)) ≡ handed_any (found bytes at) → bytes' ≡ bytes → Moved bytes at end (Ok (Some p)) → new ≡ text ++ text_line (item_of p.«record») → Listing file bytes' end new
  listing_more p end bytes' new e kept-bytes moved added =
      let item = item_of p.«record» in
      let on : found file end ≡ later (found file at) = subst (λ (b : List ℕ). found b end ≡ later (found b at)) s.same moved.0 in
      let rest = kept (later (found file at)) in
      record {
        same = kept-bytes ∙ s.same;
        left =
            ap (λ (fs : List Found). with_text new (kept fs)) on
            ∙ ap (λ (t : List ℕ). with_text t rest) added
            ∙ ap (λ (t : List ℕ). (t, rest.1)) (append_assoc text (text_line item) (flat_map text_line rest.0))
            ∙ here (Ok (Some p)) e;
      }

  pub listing_falls : (p : Placed) (end : ℕ) → Moved bytes at end (Ok (Some p)) → words file - end < words file - at
  listing_falls p end moved =
      let here : end ≤ words file = subst (λ (b : List ℕ). end ≤ words b) s.same moved.2 in
      let step = moved.1 in
      let some = size_some (item_kind (item_of p.«record»)) in
      omega arith

  -- the end of the file
  pub listing_end : told (Ok None) ≡ handed_any (found bytes at) → (text, None) ≡ with_text [] (kept (found file 0))
  listing_end e = ap (λ (t : List ℕ). (t, None)) (sym (append-nil text)) ∙ here (Ok None) e

  -- damage
  pub listing_damage : (f : FileFault) → told (Err f) ≡ handed_any (found bytes at) → (text, Some (fault_of f)) ≡ with_text [] (kept (found file 0))
  listing_damage f e = ap (λ (t : List ℕ). (t, Some (fault_of f))) (sym (append-nil text)) ∙ here (Err f) e
