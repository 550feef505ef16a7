-- An area that was measured, and the one that it stands for. Assumes nothing.
use Rattle.std.specs.Prelude.{◌≡◌, ℕ, ◌*◌, List}
use Rattle.curve.specs.declared.area.Area.{Area}
use Rattle.curve.specs.declared.side.Side.{Side}
use Rattle.curve.specs.Outline.{widths, outline}

-- the area up to a place is `parts` over twice `width`
abbrev pub Measured : List Side → ℕ → Area → Type 0
Measured ss place a = a.parts * widths ss ≡ (outline ss).area place * a.width
