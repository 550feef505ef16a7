-- The questions put to the corners of a curve. Assumes nothing.
use Rattle.std.specs.Prelude.{◌-◌, Bool, true, ◌&&◌, List, [], ◌∷◌, length, nat_le, nat_lt}
use Rattle.std.specs.List.{list_all}
use Rattle.curve.specs.declared.corner.Corner.{Corner}
use Rattle.curve.specs.declared.side.Shape.{Shape}
use Rattle.curve.specs.declared.side.Shape.TheVariants.{Steps, Lines}
use Rattle.curve.specs.Meaning.{ceiling}
use Rattle.curve.specs.Questions.{Question, all_yes}

abbrev pub neighbours_from : (Corner → Corner → Bool) → Corner → List Corner → Bool
neighbours_from test c [] = true
neighbours_from test c (e ∷ es) = test c e && neighbours_from test e es

-- of every corner and the next one
abbrev pub neighbours : (Corner → Corner → Bool) → List Corner → Bool
neighbours test [] = true
neighbours test (c ∷ cs) = neighbours_from test c cs

abbrev pub few : List Corner → Bool
few cs = nat_le 1 (length cs) && nat_le (length cs) 16

abbrev pub in_range : Corner → Bool
in_range c = nat_le c.price 10000 && (nat_le 1 c.quantity && nat_le c.quantity ceiling)

-- of a corner and the next: the quantity rises and the price does not
abbrev pub rises : Corner → Corner → Bool
rises c e = nat_lt c.quantity e.quantity && nat_le e.price c.price

-- of a corner and the next: they are not too far apart
abbrev pub near : Corner → Corner → Bool
near c e = nat_le (e.quantity - c.quantity) 10000000

abbrev pub corner_questions : Shape → List Corner → List Question
corner_questions Steps cs =
    record { number = 1; yes = few cs }
    ∷ (record { number = 2; yes = list_all in_range cs } ∷ (record { number = 3; yes = neighbours rises cs } ∷ []))
corner_questions Lines cs =
    record { number = 1; yes = few cs }
    ∷ (record { number = 2; yes = list_all in_range cs }
    ∷ (record { number = 3; yes = neighbours rises cs } ∷ (record { number = 4; yes = neighbours near cs } ∷ [])))

abbrev pub accepted : Shape → List Corner → Bool
accepted k cs = all_yes (corner_questions k cs)
