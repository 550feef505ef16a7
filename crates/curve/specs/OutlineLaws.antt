-- A curve whose sides fall keeps the laws; what is promised of the curves of accepted corners.
use Rattle.std.specs.Prelude.{◌≡◌, ℕ, ◌-◌, ◌*◌, ◌<◌, ◌≤◌, true, List, nat_le, refl}
use Rattle.std.proofs.Common.{⊎_elim, ap, sym, subst, arith}
use Rattle.std.proofs.lemmas.Bool.{cases_lt, cond-true, cond-false, le-leb, lt-leb}
use Rattle.std.proofs.lemmas.Bool.Decides.{nat_tests}
use Rattle.curve.specs.declared.corner.Corner.{Corner}
use Rattle.curve.specs.declared.side.Shape.{Shape}
use Rattle.curve.specs.declared.side.Side.{Side}
use Rattle.curve.specs.Corners.{accepted}
use Rattle.curve.specs.Meaning.{Laws, area_between, ceiling}
use Rattle.curve.specs.Outline.{origin, sides, price, reach, demand_of, widths, column, sum_to, outline}
use Rattle.curve.specs.Rules.{Farthest, AreaUnder}
use Rattle.curve.specs.AreaUnder.{area_under}
use Rattle.curve.specs.Falling.{Falling, falling}
use Rattle.curve.specs.FarthestPlaces.{farthest}
use Rattle.curve.specs.Reaches.{reach_most, reach_falls}
use Rattle.curve.specs.SumsTo.{sum_grows, sum_most}
use Rattle.curve.specs.Columns.{column_beyond, widths_some}

module _ (t : ℕ) (ss : List Side) (f : Falling 0 t ss) where
  most : (p : ℕ) → demand_of ss p ≤ ceiling
  most p = let r = reach_most 0 t ss p f (omega arith) in grind (arith, nat_tests)

  falls : (p q : ℕ) → p ≤ q → demand_of ss q ≤ demand_of ss p
  falls p q le = let r = reach_falls 0 t ss p q f le in let m = reach_most 0 t ss q f (omega arith) in grind (arith, nat_tests)

  beyond : (p x y : ℕ) → demand_of ss p ≤ x → x ≤ y → y ≤ ceiling → area_between (outline ss) x y ≤ p * (2 * widths ss) * (y - x)
  beyond p x y far le hi =
      let free : p < 1 → area_between (outline ss) x y ≤ p * (2 * widths ss) * (y - x) =
      λ z.
      let off = cond-false (nat_le 1 p) (reach 0 ss p) ceiling (lt-leb 1 p z) in
      let same : y ≡ x = omega arith in
      let level = ap (sum_to (column ss)) same in
      omega arith in
      let dear : 1 ≤ p → area_between (outline ss) x y ≤ p * (2 * widths ss) * (y - x) =
      λ z.
      let on = cond-true (nat_le 1 p) (reach 0 ss p) ceiling (le-leb 1 p z) in
      let m = sum_most (column ss) (p * (2 * widths ss)) x y le (λ k lo up. column_beyond 0 t ss p k f (omega arith)) in
      omega arith in
      ⊎_elim free dear (cases_lt p 1)

  pub outline_laws : Laws (outline ss)
  outline_laws =
      record {
        some = let w = widths_some 0 t ss f in omega arith;
        free = refl;
        most = most;
        falls = falls;
        grows = λ x y le hi. sum_grows (column ss) x y le;
        beyond = beyond;
      }

-- the curves of accepted corners
module _ (k : Shape) (cs : List Corner) (passed : accepted k cs ≡ true) where
  pub curve_laws : Laws (outline (sides k cs))
  curve_laws = outline_laws (origin cs).price (sides k cs) (falling k cs passed)

  pub curve_farthest : (p q : ℕ) → q ≡ reach 0 (sides k cs) p → 1 ≤ p → Farthest (price (sides k cs)) p q
  curve_farthest p q is some = subst (Farthest (price (sides k cs)) p) (sym is) (farthest (origin cs).price (sides k cs) p (falling k cs passed) some)

  pub curve_area : AreaUnder (outline (sides k cs)) (sides k cs)
  curve_area = area_under (origin cs).price (sides k cs) (falling k cs passed)
