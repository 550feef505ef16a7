-- The figures of the two curves, worked out.
use Rattle.std.proofs.Common.{◌≡◌, ◌*◌, refl, arith, lit≤}
use Rattle.std.proofs.lemmas.Bool.Decides.{nat_tests}
use Rattle.curve.specs.OutlineLaws.{curve_farthest}
use Rattle.curve.specs.declared.side.Shape.TheVariants.{Steps, Lines}
use Rattle.curve.specs.declared.sign.Sign.TheVariants.{Below, Level, Above}
use Rattle.curve.specs.Meaning.{Meaning, area_between}
use Rattle.curve.specs.Outline.{sides}
use Rattle.curve.specs.Rules.{AreaUnder}
use Rattle.figures.specs.Curves.{worked_corners, Weighs, WorkedCurves}

pub above : Weighs 20400 21400 Above
above m some under =
    let e = under.along.1.1.0.mean 20400 21400 (lit≤ tt) (lit≤ tt) (lit≤ tt) in
    let worth : area_between m 20400 21400 ≡ 3640000 * m.parts = omega arith in
    grind (arith, nat_tests)

pub level_worth : (m : Meaning) → AreaUnder m (sides Lines worked_corners) → area_between m 20500 21500 ≡ 3600000 * m.parts
level_worth m under =
    let e = under.along.1.1.0.mean 20500 21500 (lit≤ tt) (lit≤ tt) (lit≤ tt) in omega arith

level : Weighs 20500 21500 Level
level m some under =
    let worth = level_worth m under in grind (arith, nat_tests)

below : Weighs 20600 21600 Below
below m some under =
    let e = under.along.1.1.0.mean 20600 21600 (lit≤ tt) (lit≤ tt) (lit≤ tt) in
    let worth : area_between m 20600 21600 ≡ 3560000 * m.parts = omega arith in
    grind (arith, nat_tests)

pub worked_curves : WorkedCurves
worked_curves =
    record {
      none_so_dear = curve_farthest Lines worked_corners refl 7001 0 refl (lit≤ tt);
      at_the_first_price = curve_farthest Lines worked_corners refl 7000 10000 refl (lit≤ tt);
      off_the_whole = curve_farthest Lines worked_corners refl 6000 13334 refl (lit≤ tt);
      nearly_free = curve_farthest Lines worked_corners refl 1 29998 refl (lit≤ tt);
      above_a_step = curve_farthest Steps worked_corners refl 4001 10000 refl (lit≤ tt);
      last_step = curve_farthest Steps worked_corners refl 1 20000 refl (lit≤ tt);
      above = above;
      level = level;
      below = below;
      no_corner = refl;
      one_corner = refl;
      sixteen_corners = refl;
      seventeen_corners = refl;
      top_price = refl;
      over_top_price = refl;
      quantity_one = refl;
      quantity_zero = refl;
      at_the_ceiling = refl;
      over_the_ceiling = refl;
      price_equal = refl;
      price_rises = refl;
      quantity_rises = refl;
      quantity_equal = refl;
      widest = refl;
      too_wide = refl;
      steps_may_be_wider = refl;
      places_equal = refl;
      places_crossed = refl;
      up_to_the_ceiling = refl;
      past_the_ceiling = refl;
    }
