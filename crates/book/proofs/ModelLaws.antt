-- Laws of the model of a book: what each operation leaves, and that an entry stepped back is undone. Assumes nothing.
use Rattle.std.proofs.Common.{◌≡◌, ℕ, zero, suc, ◌+◌, ◌<◌, ◌≤◌, Bool, true, false, cond, leb, List, [], ◌∷◌, ◌++◌, length, get_or, set, Some, None, sum_by, Option, refl, ap, arith}
use Rattle.std.specs.Option.{option_to_list}
use Rattle.std.proofs.lemmas.List.Sums.{sum_by-cons}
use Rattle.book.specs.declared.class.Class.TheVariants.{Existing}
use Rattle.book.specs.declared.class.Side.TheVariants.{Taker}
use Rattle.book.specs.declared.entry.Entry.{Entry}
use Rattle.book.specs.declared.unit.Standing.{Standing}
use Rattle.book.specs.declared.unit.Unit.{Unit as Row}
use Rattle.book.specs.Books.{Books, no_unit, unit_at, stood, out_at, for_years, with_exit, with_years, undone, stepped_back, in_kw, capacity_inside, total_enrolled, leaving, exits_up_to}
use Rattle.book.specs.Exits.{exit_up_to, out_kw, capacity_out}

-- the units when the unit i stands otherwise
abbrev pub with_standing : List Row → ℕ → Standing → List Row
with_standing us i s = set us i (stood (get_or us i no_unit) s)

-- what reading past the end would give, which the code never does
abbrev pub unread : Row
unread =
    record {
      enrolled = record { capacity = 0; class = Existing; side = Taker; years = 0; random = 0; name = [] };
      standing = record { years = 0; inside = false; exit = None };
    }

-- step back

stood_back : (us : List Row) (i : ℕ) (s : Standing) → with_standing (with_standing us i s) i (get_or us i no_unit).standing ≡ us
stood_back [] i s = refl
stood_back (u ∷ us) zero s = refl
stood_back (u ∷ us) (suc i) s = ap (λ (vs : List Row). u ∷ vs) (stood_back us i s)

pub exit_stepped_back : (b : Books) (i price : ℕ) → stepped_back (with_exit b i price) ≡ b
exit_stepped_back b i price = ap (λ (us : List Row). record { units = us; entries = b.entries }) (stood_back b.units i (out_at (unit_at b i).standing price))

pub years_stepped_back : (b : Books) (i years : ℕ) → stepped_back (with_years b i years) ≡ b
years_stepped_back b i years = ap (λ (us : List Row). record { units = us; entries = b.entries }) (stood_back b.units i (for_years (unit_at b i).standing years))

-- what was enrolled stays

pub enrolled_stays : (us : List Row) (i j : ℕ) (s : Standing) → (get_or (with_standing us i s) j no_unit).enrolled ≡ (get_or us j no_unit).enrolled
enrolled_stays [] i j s = refl
enrolled_stays (u ∷ us) zero zero s = refl
enrolled_stays (u ∷ us) zero (suc j) s = refl
enrolled_stays (u ∷ us) (suc i) zero s = refl
enrolled_stays (u ∷ us) (suc i) (suc j) s = enrolled_stays us i j s

pub total_stays : (us : List Row) (i : ℕ) (s : Standing) → total_enrolled (with_standing us i s) ≡ total_enrolled us
total_stays [] i s = refl
total_stays (u ∷ us) zero s = refl
total_stays (u ∷ us) (suc i) s = ap (λ (n : ℕ). u.enrolled.capacity + n) (total_stays us i s)

pub total_after_exit : (b : Books) (i price : ℕ) → total_enrolled (with_exit b i price).units ≡ total_enrolled b.units
total_after_exit b i price = total_stays b.units i _

pub total_after_years : (b : Books) (i years : ℕ) → total_enrolled (with_years b i years).units ≡ total_enrolled b.units
total_after_years b i years = total_stays b.units i _

total_undone : (us : List Row) (es : List Entry) → total_enrolled (undone us es).units ≡ total_enrolled us
total_undone us [] = refl
total_undone us (e ∷ es) = total_stays us e.unit e.former

pub total_after_step_back : (b : Books) → total_enrolled (stepped_back b).units ≡ total_enrolled b.units
total_after_step_back b = total_undone b.units b.entries

pub total_one_more : (us : List Row) (u : Row) → total_enrolled (us ++ (u ∷ [])) ≡ total_enrolled us + u.enrolled.capacity
total_one_more [] u = omega arith
total_one_more (v ∷ us) u = let rest = total_one_more us u in omega arith

-- capacity in

pub capacity_is : (us : List Row) → capacity_inside us ≡ sum_by in_kw us
capacity_is [] = refl
capacity_is (u ∷ us) = let more = sum_by-cons in_kw u us in let rest = capacity_is us in omega arith

pub capacity_one_more : (us : List Row) (u : Row) → capacity_inside (us ++ (u ∷ [])) ≡ capacity_inside us + in_kw u
capacity_one_more [] u = omega arith
capacity_one_more (v ∷ us) u = let rest = capacity_one_more us u in omega arith

either_kw : (u : Row) → u.enrolled.capacity ≡ in_kw u + out_kw u
either_kw u =
    elim u.standing.exit as (λ o. u.enrolled.capacity ≡ elim o [ None ↦ u.enrolled.capacity | Some price ↦ 0 ] + elim o [ None ↦ 0 | Some price ↦ u.enrolled.capacity ]) [ None ↦ omega arith | Some price ↦ omega arith ]

-- every unit is in or out
pub total_in_and_out : (us : List Row) → total_enrolled us ≡ capacity_inside us + capacity_out us
total_in_and_out [] = refl
total_in_and_out (u ∷ us) = let one = either_kw u in let rest = total_in_and_out us in omega arith

pub capacity_at_most_total : (us : List Row) → capacity_inside us ≤ total_enrolled us
capacity_at_most_total us = let all = total_in_and_out us in omega arith

pub capacity_changes : (us : List Row) (i : ℕ) (s : Standing) → i < length us → capacity_inside (with_standing us i s) + in_kw (get_or us i no_unit) ≡ capacity_inside us + in_kw (stood (get_or us i no_unit) s)
capacity_changes [] i s lt = absurd (omega arith)
capacity_changes (u ∷ us) zero s lt = omega arith
capacity_changes (u ∷ us) (suc i) s lt = let rest = capacity_changes us i s (omega arith) in omega arith

in_whole : (u : Row) → u.standing.exit ≡ None → in_kw u ≡ u.enrolled.capacity
in_whole u e = ap (λ (o : Option ℕ). elim o [ None ↦ u.enrolled.capacity | Some price ↦ 0 ]) e

-- an exit takes the unit's capacity off what is in
pub capacity_after_exit : (b : Books) (i price : ℕ) → i < length b.units → (unit_at b i).standing.exit ≡ None → capacity_inside (with_exit b i price).units + (unit_at b i).enrolled.capacity ≡ capacity_inside b.units
capacity_after_exit b i price lt inside =
    let change = capacity_changes b.units i (out_at (unit_at b i).standing price) lt in
    let was = in_whole (unit_at b i) inside in
    omega arith

pub capacity_after_years : (b : Books) (i years : ℕ) → i < length b.units → capacity_inside (with_years b i years).units ≡ capacity_inside b.units
capacity_after_years b i years lt =
    let change = capacity_changes b.units i (for_years (unit_at b i).standing years) lt in omega arith

-- names

-- exits

-- what the unit n adds to the exits
pub exits_one_more : (top n : ℕ) (u : Row) (us : List Row) → exits_up_to top n (u ∷ us) ≡ option_to_list (exit_up_to top n u) ++ exits_up_to top (n + 1) us
exits_one_more top n u us =
    elim u.standing.exit as
    (λ o. elim o [ None ↦ exits_up_to top (n + 1) us | Some price ↦ cond (leb price top) (leaving n u price ∷ exits_up_to top (n + 1) us) (exits_up_to top (n + 1) us) ] ≡ option_to_list (elim o [ None ↦ None | Some price ↦ cond (leb price top) (Some (leaving n u price)) None ]) ++ exits_up_to top (n + 1) us)
    [ None ↦ refl | Some price ↦ kept (leb price top) price ]
  where
    kept : (b : Bool) (price : ℕ) → cond b (leaving n u price ∷ exits_up_to top (n + 1) us) (exits_up_to top (n + 1) us) ≡ option_to_list (cond b (Some (leaving n u price)) None) ++ exits_up_to top (n + 1) us
    kept true price = refl
    kept false price = refl
