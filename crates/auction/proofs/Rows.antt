-- Sums over the units of a book, and what an entry or a new unit makes of them.
use Rattle.std.proofs.Common.{◌≡◌, ℕ, ◌+◌, ◌<◌, true, cond, eqb, List, [], ◌∷◌, ◌++◌, length, get_or, set, Some, None, sum_by, Option, sym, refl, ap, ◌∙◌}
use Rattle.std.proofs.lemmas.List.Sums.{sum_by-cons, sum_by-set}
use Rattle.std.proofs.lemmas.Bool.{false≢true}
use Rattle.auction.specs.History.{last_for, is_none, unit_said}
use Rattle.book.specs.declared.class.Class.{Class}
use Rattle.book.specs.declared.class.Class.TheVariants.{Existing}
use Rattle.book.specs.declared.terms.Application.{Application}
use Rattle.book.specs.declared.unit.Unit.{Unit as Row}
use Rattle.book.proofs.ModelLaws.{capacity_is}
use Rattle.book.proofs.Rules.{new_capacity}
use Rattle.book.specs.Books.{no_unit, class_of, new_unit, enrolled_as, in_kw, capacity_inside, total_enrolled}

abbrev pub kw : Row → ℕ
kw u = u.enrolled.capacity

pub total_sum : (us : List Row) → total_enrolled us ≡ sum_by kw us
total_sum [] = refl
total_sum (u ∷ us) = ap (λ n. kw u + n) (total_sum us) ∙ sym (sum_by-cons kw u us)

pub in_set : (us : List Row) (i : ℕ) (u : Row) → i < length us → capacity_inside (set us i u) + in_kw (get_or us i no_unit) ≡ capacity_inside us + in_kw u
in_set us i u here =
    ap (λ n. n + in_kw (get_or us i no_unit)) (capacity_is (set us i u)) ∙ sum_by-set in_kw us i u no_unit here ∙ ap (λ n. n + in_kw u) (sym (capacity_is us))

-- a unit just enrolled

abbrev unit_as : Application → Option Class → Row
unit_as a None = enrolled_as a Existing
unit_as a (Some c) = enrolled_as a c

pub new_unit_is : (a : Application) → new_unit a ≡ unit_said a None None
new_unit_is a =
    elim (class_of a.class) as (λ o. unit_as a o ≡ record { enrolled = (unit_as a o).enrolled; standing = record { years = a.years; inside = true; exit = None } }) [ None ↦ refl | Some c ↦ refl ]

pub new_years : (a : Application) → (new_unit a).enrolled.years ≡ a.years
new_years a = elim (class_of a.class) as (λ o. (unit_as a o).enrolled.years ≡ a.years) [ None ↦ refl | Some c ↦ refl ]

pub new_in_kw : (a : Application) → in_kw (new_unit a) ≡ a.capacity
new_in_kw a = ap in_kw (new_unit_is a) ∙ new_capacity a

-- the number last given, with one more given
pub last_push : (i : ℕ) (found : Option ℕ) (es : List (ℕ × ℕ)) (e : ℕ × ℕ) → last_for i found (es ++ e ∷ []) ≡ cond (eqb i e.0) (Some e.1) (last_for i found es)
last_push i found [] e = refl
last_push i found (x ∷ es) e = last_push i (cond (eqb i x.0) (Some x.1) found) es e

pub none_is : (o : Option ℕ) → is_none o ≡ true → o ≡ None
none_is None h = refl
none_is (Some n) h = absurd (false≢true h)
