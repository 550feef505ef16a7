-- Worked clearings over curve K, and what the relation says of them.
use Rattle.std.specs.Prelude.{◌≡◌, ℕ, List, [], ◌∷◌, pos, Some, None, codes}
use Rattle.curve.specs.declared.side.Shape.TheVariants.{Lines}
use Rattle.curve.specs.Meaning.{Meaning}
use Rattle.curve.specs.Outline.{sides, outline}
use Rattle.ranking.specs.declared.exits.Exit.{Exit}
use Rattle.clearing.specs.declared.ground.Ground.{Ground}
use Rattle.clearing.specs.declared.ground.Ground.TheVariants.{FloorExact, ExitExact, AllFit, NextTaken, NextLeft}
use Rattle.clearing.specs.Grounds.{Outcome}
use Rattle.clearing.specs.Margins.{weighed}
use Rattle.clearing.specs.Places.{place_at}
use Rattle.clearing.specs.Premise.{Clearable}
use Rattle.figures.specs.Curves.{worked_corners}

-- the straight curve K
abbrev pub worked_curve : Meaning
worked_curve = outline (sides Lines worked_corners)

-- COMBE-3, of a capacity that differs from case to case
abbrev pub combe : ℕ → Exit
combe capacity = record { unit = 2; price = 3600; capacity = capacity; years = 10; random = 2; name = codes "COMBE-3 " }

abbrev pub dale : Exit
dale = record { unit = 3; price = 3600; capacity = 1000; years = 1; random = 7; name = codes "DALE-4  " }

abbrev pub edge : Exit
edge = record { unit = 4; price = 5000; capacity = 2000; years = 3; random = 5; name = codes "EDGE-5  " }

-- with this floor and this capacity in, the round clears so
pub record ClearsSo (floor s0 : ℕ) (exits : List Exit) (price : ℕ) (ground : Ground) (stop : ℕ) : Type 0 where
  pub clearable : Clearable floor s0 exits
  pub outcome : Outcome worked_curve floor s0 exits (Some (record { price = price; ground = ground; stop = stop }))

-- with this floor and this capacity in, the round does not clear
pub record ClearsNot (floor s0 : ℕ) (exits : List Exit) : Type 0 where
  pub clearable : Clearable floor s0 exits
  pub outcome : Outcome worked_curve floor s0 exits None

pub record WorkedClearings : Type 0 where
  -- more is in than is wanted at the floor
  pub too_much : ClearsNot 4000 21400 (edge ∷ [])
  -- nobody leaves, and what is in is just what is wanted at the floor
  pub at_the_floor : ClearsSo 4000 20000 [] 4000 FloorExact 0
  -- nobody is enrolled
  pub nobody : ClearsSo 4000 0 [] 4000 AllFit 0
  -- with one exit it is just what is wanted at its price
  pub at_an_exit : ClearsSo 1000 20000 (dale ∷ []) 3600 ExitExact 1
  -- the second exit passes the demand, and is worth what it costs more
  pub taken : ClearsSo 1000 19000 (combe 1400 ∷ dale ∷ []) 3600 NextTaken 2
  -- with 1,500 for 1,400 it is worth just that: the weighed number is 0
  pub left : ClearsSo 1000 19000 (combe 1500 ∷ dale ∷ []) 3600 NextLeft 1
  pub even : weighed worked_curve (place_at 1000 19000 (combe 1500 ∷ dale ∷ []) 1) (place_at 1000 19000 (combe 1500 ∷ dale ∷ []) 2) ≡ pos 0
