-- The margin: whether the first exit that does not fit is taken all the same. Assumes nothing.
use Rattle.std.specs.Prelude.{Bool, ℤ, pos, ◌-ℤ◌, ◌*ℤ◌, int_lt}
use Rattle.curve.specs.Meaning.{Meaning, area_between}
use Rattle.curve.specs.Weighing.{compared}
use Rattle.clearing.specs.declared.place.Place.{Place}
use Rattle.clearing.specs.Places.{cost}

-- what the next place costs more than the last fit, in pence
abbrev pub dearer_by : Place → Place → ℤ
dearer_by last next = pos (cost next) -ℤ pos (cost last)

-- the weighed number: the area under the curve between the two sums, less that. It counts in the curve's parts.
abbrev pub weighed : Meaning → Place → Place → ℤ
weighed m last next = pos (area_between m last.sum next.sum) -ℤ (dearer_by last next *ℤ pos m.parts)

-- -1, 0 or +1 as a number is below, at or above zero
abbrev pub sign_of : ℤ → ℤ
sign_of z = compared z (pos 0)

-- The choice: the exit between the two places is taken where the weighed number is above zero, and left where it is not. It
-- may look at the places (the last fit, both prices, both sums) and at the sign.
abbrev pub takes : Place → Place → ℤ → Bool
takes last next sign = int_lt (pos 0) sign
