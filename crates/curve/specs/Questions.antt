-- Questions with their numbers, and the first that is answered "no". Assumes nothing.
use Rattle.std.specs.Prelude.{ℕ, Bool, true, cond, ◌&&◌, List, [], ◌∷◌, Some, None, Ok, Err, Option, Result}
use Rattle.curve.specs.declared.refusal.CurveRefusal.{CurveRefusal}
use Rattle.curve.specs.declared.refusal.CurveRefusal.TheVariants.{CornerCount, CornerRange, CornerOrder, CornerGap, Places}

-- a question that is put to a call: its number, and whether the answer is "yes"
pub record Question : Type 0 where
  pub number : ℕ
  pub yes : Bool

-- the number of the first question, in the order they are put, that is answered "no"
abbrev pub first_no : List Question → Option ℕ
first_no [] = None
first_no (q ∷ qs) = cond q.yes (first_no qs) (Some q.number)

-- the number that a call answers, if it refuses
abbrev pub refused : {A E : Type 0} → (E → ℕ) → Result A E → Option ℕ
refused number (Ok a) = None
refused number (Err e) = Some (number e)

abbrev pub question : CurveRefusal → ℕ
question CornerCount = 1
question CornerRange = 2
question CornerOrder = 3
question CornerGap = 4
question Places = 5

abbrev pub all_yes : List Question → Bool
all_yes [] = true
all_yes (q ∷ qs) = q.yes && all_yes qs
