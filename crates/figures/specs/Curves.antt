-- The worked curves, and what the rules say of them.
use Rattle.std.specs.Prelude.{◌≡◌, ℕ, zero, suc, ◌+◌, ◌≤◌, List, [], ◌∷◌, pos, ◌*ℤ◌, Some, None}
use Rattle.curve.specs.declared.corner.Corner.{Corner}
use Rattle.curve.specs.declared.side.Shape.{Shape}
use Rattle.curve.specs.declared.side.Shape.TheVariants.{Steps, Lines}
use Rattle.curve.specs.declared.sign.Sign.{Sign}
use Rattle.curve.specs.declared.sign.Sign.TheVariants.{Below, Level, Above}
use Rattle.curve.specs.Corners.{corner_questions}
use Rattle.curve.specs.Meaning.{Meaning, area_between}
use Rattle.curve.specs.Outline.{sides, price}
use Rattle.curve.specs.Questions.{first_no}
use Rattle.curve.specs.Rules.{Farthest, AreaUnder}
use Rattle.curve.specs.Weighing.{sign_number, compared, place_questions}

abbrev corner : ℕ → ℕ → Corner
corner q p = record { quantity = q; price = p }

-- curve K
abbrev pub worked_corners : List Corner
worked_corners = corner 10000 7000 ∷ (corner 20000 4000 ∷ (corner 30000 0 ∷ []))

-- q is the farthest place, rounded up, whose price is at least p
abbrev pub Wanted : Shape → ℕ → ℕ → Type 0
Wanted k p q = Farthest (price (sides k worked_corners)) p q

-- whatever measures the area under K's price finds it so between the places x and y, against 3,600,000
abbrev pub Weighs : ℕ → ℕ → Sign → Type 0
Weighs x y g =
    (m : Meaning) → 1 ≤ m.parts → AreaUnder m (sides Lines worked_corners)
    → sign_number g ≡ compared (pos (area_between m x y)) (pos 3600000 *ℤ pos m.parts)

-- a curve of this meaning finds it so between the places x and y, against 3,600,000
abbrev pub FoundSo : Meaning → ℕ → ℕ → Sign → Type 0
FoundSo m x y g =
    (first_no (place_questions x y) ≡ None) × (sign_number g ≡ compared (pos (area_between m x y)) (pos 3600000 *ℤ pos m.parts))

-- the corners pass all questions; the question with this number is the first that they fail
abbrev Passes : Shape → List Corner → Type 0
Passes k cs = first_no (corner_questions k cs) ≡ None

abbrev Fails : Shape → List Corner → ℕ → Type 0
Fails k cs n = first_no (corner_questions k cs) ≡ Some n

-- n corners, one for each 1,000 kW, of one price
abbrev pub row_of : ℕ → ℕ → List Corner
row_of q zero = []
row_of q (suc n) = corner (q + 1000) 100 ∷ row_of (q + 1000) n

abbrev pub two : ℕ → ℕ → ℕ → ℕ → List Corner
two a b c d = corner a b ∷ (corner c d ∷ [])

pub record WorkedCurves : Type 0 where
  pub none_so_dear : Wanted Lines 7001 0
  pub at_the_first_price : Wanted Lines 7000 10000
  pub off_the_whole : Wanted Lines 6000 13334
  pub nearly_free : Wanted Lines 1 29998
  pub above_a_step : Wanted Steps 4001 10000
  pub last_step : Wanted Steps 1 20000
  pub above : Weighs 20400 21400 Above
  pub level : Weighs 20500 21500 Level
  pub below : Weighs 20600 21600 Below
  pub no_corner : Fails Lines [] 1
  pub one_corner : Passes Lines (row_of 0 1)
  pub sixteen_corners : Passes Lines (row_of 0 16)
  pub seventeen_corners : Fails Lines (row_of 0 17) 1
  pub top_price : Passes Lines (two 1000 10000 2000 0)
  pub over_top_price : Fails Lines (two 1000 10001 2000 0) 2
  pub quantity_one : Passes Lines (two 1 100 2000 0)
  pub quantity_zero : Fails Lines (two 0 100 2000 0) 2
  pub at_the_ceiling : Passes Steps (two 1000 100 200000000 0)
  pub over_the_ceiling : Fails Steps (two 1000 100 200000001 0) 2
  pub price_equal : Passes Lines (two 1000 100 2000 100)
  pub price_rises : Fails Lines (two 1000 100 2000 101) 3
  pub quantity_rises : Passes Lines (two 1000 100 1001 0)
  pub quantity_equal : Fails Lines (two 1000 100 1000 0) 3
  pub widest : Passes Lines (two 1000 100 10001000 0)
  pub too_wide : Fails Lines (two 1000 100 10001001 0) 4
  pub steps_may_be_wider : Passes Steps (two 1000 100 10001001 0)
  pub places_equal : first_no (place_questions 20000 20000) ≡ None
  pub places_crossed : first_no (place_questions 20001 20000) ≡ Some 5
  pub up_to_the_ceiling : first_no (place_questions 0 200000000) ≡ None
  pub past_the_ceiling : first_no (place_questions 0 200000001) ≡ Some 5
