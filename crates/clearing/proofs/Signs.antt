-- The sign that the curve tells is that of the weighed number.
use Rattle.std.proofs.Common.{◌≡◌, ℤ, pos, ◌-ℤ◌, ◌*ℤ◌, ap, ◌∙◌, arith}
use Rattle.std.proofs.lemmas.Int.{ints}
use Rattle.curve.specs.declared.sign.Sign.{Sign}
use Rattle.curve.specs.Meaning.{Meaning, area_between}
use Rattle.curve.specs.Weighing.{compared, sign_number}
use Rattle.clearing.specs.declared.place.Place.{Place}
use Rattle.clearing.specs.Margins.{dearer_by, weighed, sign_of}

compared_difference : (x y : ℤ) → compared x y ≡ sign_of (x -ℤ y)
compared_difference x y = grind (arith, ints)

pub told_weighed : (m : Meaning) (last next : Place) (g : Sign) (sum : ℤ) → sum ≡ dearer_by last next → sign_number g ≡ compared (pos (area_between m last.sum next.sum)) (sum *ℤ pos m.parts) → sign_number g ≡ sign_of (weighed m last next)
told_weighed m last next g sum is told =
    told
    ∙ ap (λ (z : ℤ). compared (pos (area_between m last.sum next.sum)) (z *ℤ pos m.parts)) is
    ∙ compared_difference (pos (area_between m last.sum next.sum)) (dearer_by last next *ℤ pos m.parts)
