-- How far a price reaches along sides that fall.
use Rattle.std.specs.Prelude.{◌≡◌, ℕ, ◌-◌, ◌*◌, ◌<◌, ◌≤◌, true, List, [], ◌∷◌, nat_le}
use Rattle.std.proofs.Common.{ap, sym, subst, ◌∙◌, arith}
use Rattle.std.proofs.lemmas.Bool.{cond_both, cond-true, cond-false, le-leb, lt-leb}
use Rattle.std.proofs.lemmas.Bool.Decides.{nat_tests}
use Rattle.std.specs.Int.{div_ceil}
use Rattle.curve.specs.declared.corner.Corner.{Corner}
use Rattle.curve.specs.declared.side.Shape.{Shape}
use Rattle.curve.specs.declared.side.Side.{Side}
use Rattle.curve.specs.Corners.{accepted}
use Rattle.curve.specs.Meaning.{ceiling}
use Rattle.curve.specs.Outline.{side, sides_from, origin, sides, width, crossing, reach, Sound}
use Rattle.curve.specs.Falling.{Next, Falling, Walking, walking_start, walking_next, walking_sound, side_ends, origin_zero}
use Rattle.curve.specs.SideNumbers.{crosses_inside, up_falls}

pub crossing_least : (s : Side) (p : ℕ) → s.from ≤ crossing s p
crossing_least s p = grind (arith, nat_tests)

pub crossing_most : (q t : ℕ) (s : Side) (p : ℕ) → Next q t s → s.end < p → crossing s p ≤ s.to
crossing_most q t s p n lo =
    let i : p ≤ s.start → div_ceil ((s.start - p) * width s) (s.start - s.end) ≤ width s =
    crosses_inside s.start s.end (width s) p lo in
    grind (arith, nat_tests)

pub reach_least : (q t : ℕ) (ss : List Side) (p : ℕ) → Falling q t ss → q ≤ reach q ss p
reach_least q t [] p f = omega arith
reach_least q t (s ∷ ss) p f =
    let n = f.0 in
    let i = reach_least s.to s.end ss p f.1 in
    let j = crossing_least s p in
    cond_both (nat_le p s.end) (reach s.to ss p) (crossing s p) (λ (r : ℕ). q ≤ r) (λ e. omega arith) (λ e. omega arith)

pub reach_most : (q t : ℕ) (ss : List Side) (p : ℕ) → Falling q t ss → q ≤ ceiling → reach q ss p ≤ ceiling
reach_most q t [] p f h = h
reach_most q t (s ∷ ss) p f h =
    let n = f.0 in
    let i = reach_most s.to s.end ss p f.1 n.most in
    let j : s.end < p → crossing s p ≤ s.to = crossing_most q t s p n in
    cond_both (nat_le p s.end) (reach s.to ss p) (crossing s p) (λ (r : ℕ). r ≤ ceiling) (λ e. i)
    (λ e. let k : s.end < p = grind (arith, nat_tests) in omega (arith, j k))

crossing_falls : (s : Side) (p r : ℕ) → s.end < p → p ≤ r → crossing s r ≤ crossing s p
crossing_falls s p r lo le =
    let i : r ≤ s.start → div_ceil ((s.start - r) * width s) (s.start - s.end) ≤ div_ceil ((s.start - p) * width s) (s.start - s.end) =
    λ h. up_falls s.start s.end (width s) p r lo le h in
    grind (arith, nat_tests)

-- a higher price reaches no farther
pub reach_falls : (q t : ℕ) (ss : List Side) (p r : ℕ) → Falling q t ss → p ≤ r → reach q ss r ≤ reach q ss p
reach_falls q t [] p r f le = omega arith
reach_falls q t (s ∷ ss) p r f le =
    let n = f.0 in
    let i = reach_falls s.to s.end ss p r f.1 le in
    let l = reach_least s.to s.end ss p f.1 in
    let j : s.end < r → crossing s r ≤ s.to = crossing_most q t s r n in
    let k : s.end < p → crossing s r ≤ crossing s p = λ h. crossing_falls s p r h le in
    grind (arith, nat_tests)

-- on the way along the corners: c was passed, cs are to come
pub record Reaching (k : Shape) (p : ℕ) (all : List Corner) (c : Corner) (cs : List Corner) : Type 0 where
  pub walking : Walking k c cs
  pub same : reach c.quantity (sides_from k c cs) p ≡ reach 0 (sides k all) p

pub reaching_start : (k : Shape) (p : ℕ) (all : List Corner) → accepted k all ≡ true → Reaching k p all (origin all) all
reaching_start k p all passed =
    record { walking = walking_start k all passed; same = ap (λ (q : ℕ). reach q (sides k all) p) (origin_zero all) }

module _ (k : Shape) (p : ℕ) (all : List Corner) (c e : Corner) (es : List Corner) (r : Reaching k p all c (e ∷ es)) (s : Side) (is : s ≡ side k c e) where
  pub reaching_sound : Sound s
  reaching_sound = subst Sound (sym is) (walking_sound r.walking)

  pub reaching_next : p ≤ s.end → Reaching k p all e es
  reaching_next le =
      let t : Side = side k c e in
      let hi : p ≤ t.end = subst (λ (x : Side). p ≤ x.end) is le in
      let on = cond-true (nat_le p t.end) (reach t.to (sides_from k e es) p) (crossing t p) (le-leb p t.end hi) in
      let ends = ap (λ (q : ℕ). reach q (sides_from k e es) p) (side_ends k c e).0 in
      record { walking = walking_next r.walking; same = sym ends ∙ (sym on ∙ r.same) }

  pub reaching_stop : s.end < p → crossing s p ≡ reach 0 (sides k all) p
  reaching_stop lt =
      let t : Side = side k c e in
      let lo : t.end < p = subst (λ (x : Side). x.end < p) is lt in
      let off = cond-false (nat_le p t.end) (reach t.to (sides_from k e es) p) (crossing t p) (lt-leb p t.end lo) in
      ap (λ (x : Side). crossing x p) is ∙ (sym off ∙ r.same)
