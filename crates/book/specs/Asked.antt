-- The questions of Enrol, Exit, Years and Step back that follow question 9. Assumes nothing.
use Rattle.std.specs.Prelude.{ℕ, ◌+◌, Bool, true, false, not, ◌&&◌, ◌||◌, List, [], ◌∷◌, length, Some, None, nat_le, nat_lt}
use Rattle.book.specs.declared.class.Side.{Side}
use Rattle.book.specs.declared.class.Side.TheVariants.{Taker, Maker}
use Rattle.book.specs.declared.refusal.BookRefusal.{BookRefusal}
use Rattle.book.specs.declared.refusal.BookRefusal.TheVariants.{Full, Capacity, Total, ClassOrYears, Name, NoUnit, Out, Price, Threshold, Years, EntriesFull, NoEntry}
use Rattle.book.specs.declared.terms.Application.{Application}
use Rattle.book.specs.declared.terms.Terms.{Terms}
use Rattle.book.specs.declared.unit.Unit.{Unit as Row}
use Rattle.book.specs.Books.{Books, unit_at, class_of, most_years, total_enrolled}
use Rattle.book.specs.Names.{well_formed, same_name}
use Rattle.curve.specs.Meaning.{ceiling}
use Rattle.curve.specs.Questions.{Question}

abbrev pub book_question : BookRefusal → ℕ
book_question Full = 10
book_question Capacity = 11
book_question Total = 12
book_question ClassOrYears = 13
book_question Name = 14
book_question NoUnit = 15
book_question Out = 16
book_question Price = 17
book_question Threshold = 18
book_question Years = 19
book_question EntriesFull = 20
book_question NoEntry = 21

abbrev pub asked : ℕ → Bool → Question
asked n b = record { number = n; yes = b }

abbrev pub years_known : Application → Bool
years_known a = elim (class_of a.class) [ None ↦ false | Some c ↦ nat_le 1 a.years && nat_le a.years (most_years c) ]

abbrev pub named : List Row → List ℕ → Bool
named [] name = false
named (u ∷ us) name = same_name u.enrolled.name name || named us name

abbrev pub enrol_questions : Books → Application → List Question
enrol_questions b a =
    asked 10 (nat_lt (length b.units) 512)
    ∷ asked 11 (nat_le 1000 a.capacity && nat_le a.capacity 5000000)
    ∷ asked 12 (nat_le (total_enrolled b.units + a.capacity) ceiling)
    ∷ asked 13 (years_known a)
    ∷ asked 14 (well_formed a.name && not (named b.units a.name))
    ∷ []

abbrev pub is_a_maker : Side → Bool
is_a_maker Taker = false
is_a_maker Maker = true

abbrev pub exit_questions : Terms → Books → ℕ → ℕ → List Question
exit_questions t b i price =
    asked 15 (nat_lt i (length b.units))
    ∷ asked 16 (unit_at b i).standing.inside
    ∷ asked 17 (nat_lt t.floor price && nat_le price t.«cap»)
    ∷ asked 18 (is_a_maker (unit_at b i).enrolled.side || nat_le price t.threshold)
    ∷ asked 20 (nat_lt (length b.entries) 1024)
    ∷ []

abbrev pub years_questions : Books → ℕ → ℕ → List Question
years_questions b i years =
    asked 15 (nat_lt i (length b.units))
    ∷ asked 16 (unit_at b i).standing.inside
    ∷ asked 19 (nat_le 1 years && nat_lt years (unit_at b i).standing.years)
    ∷ asked 20 (nat_lt (length b.entries) 1024)
    ∷ []

abbrev pub back_questions : Books → List Question
back_questions b = asked 21 (nat_lt 0 (length b.entries)) ∷ []
