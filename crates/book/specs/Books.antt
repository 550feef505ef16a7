-- What a book holds, and what each operation makes of it. Assumes nothing.
use Rattle.std.specs.Prelude.{ℕ, ◌+◌, true, false, cond, List, [], ◌∷◌, ◌++◌, Some, None, Option, ◌==◌, nat_le, slice_index_or, slice_set}
use Rattle.book.specs.declared.class.Class.{Class}
use Rattle.book.specs.declared.class.Class.TheVariants.{Existing, Refurbishing, NewBuild, DemandSide}
use Rattle.book.specs.declared.class.Side.{Side}
use Rattle.book.specs.declared.class.Side.TheVariants.{Taker, Maker}
use Rattle.book.specs.declared.entry.Entry.{Entry}
use Rattle.book.specs.declared.entry.EntryKind.{EntryKind}
use Rattle.book.specs.declared.entry.EntryKind.TheVariants.{Exit, Years}
use Rattle.book.specs.declared.terms.Application.{Application}
use Rattle.book.specs.declared.unit.Standing.{Standing}
use Rattle.book.specs.declared.unit.Unit.{Unit as Row}
use Rattle.ranking.specs.declared.exits.Exit.{Exit as Leaving}

-- the units by number, and the entries of this round that stand, the latest first
pub record Books : Type 0 where
  pub units : List Row
  pub entries : List Entry

abbrev pub no_books : Books
no_books = record { units = []; entries = [] }

-- the class with a number, if there is one
abbrev pub class_of : ℕ → Option Class
class_of n =
    cond (n == 0) (Some Existing) (cond (n == 1) (Some Refurbishing) (cond (n == 2) (Some NewBuild) (cond (n == 3) (Some DemandSide) None)))

abbrev pub class_number : Class → ℕ
class_number Existing = 0
class_number Refurbishing = 1
class_number NewBuild = 2
class_number DemandSide = 3

abbrev pub most_years : Class → ℕ
most_years Existing = 1
most_years Refurbishing = 3
most_years NewBuild = 15
most_years DemandSide = 1

abbrev pub side_number : Side → ℕ
side_number Taker = 0
side_number Maker = 1

-- a unit as it stands when it is enrolled with a class: in, with its enrolled years and no exit price
abbrev pub enrolled_as : Application → Class → Row
enrolled_as a c =
    record {
      enrolled = record { capacity = a.capacity; class = c; side = a.side; years = a.years; random = a.random; name = a.name };
      standing = record { years = a.years; inside = true; exit = None };
    }

-- the unit that an application makes; an unknown class makes none, and is refused before
abbrev pub new_unit : Application → Row
new_unit a = elim (class_of a.class) [ None ↦ enrolled_as a Existing | Some c ↦ enrolled_as a c ]

abbrev pub no_unit : Row
no_unit =
    record {
      enrolled = record { capacity = 0; class = Existing; side = Taker; years = 0; random = 0; name = 0 ∷ 0 ∷ 0 ∷ 0 ∷ 0 ∷ 0 ∷ 0 ∷ 0 ∷ [] };
      standing = record { years = 0; inside = false; exit = None };
    }

abbrev pub unit_at : Books → ℕ → Row
unit_at b i = slice_index_or b.units i no_unit

-- a unit with another standing; what it was enrolled with stays
abbrev pub stood : Row → Standing → Row
stood u s = record { enrolled = u.enrolled; standing = s }

abbrev pub out_at : Standing → ℕ → Standing
out_at s price = record { years = s.years; inside = false; exit = Some price }

abbrev pub for_years : Standing → ℕ → Standing
for_years s years = record { years = years; inside = s.inside; exit = s.exit }

-- one more unit
abbrev pub with_unit : Books → Row → Books
with_unit b u = record { units = b.units ++ (u ∷ []); entries = b.entries }

-- the unit i stands so now, and the latest entry, of this kind, holds how it stood before
abbrev pub with_entry : Books → ℕ → Standing → EntryKind → Books
with_entry b i s kind =
    record {
      units = slice_set b.units i (stood (unit_at b i) s);
      entries = record { kind = kind; unit = i; former = (unit_at b i).standing } ∷ b.entries;
    }

abbrev pub with_exit : Books → ℕ → ℕ → Books
with_exit b i price = with_entry b i (out_at (unit_at b i).standing price) Exit

abbrev pub with_years : Books → ℕ → ℕ → Books
with_years b i years = with_entry b i (for_years (unit_at b i).standing years) Years

-- the latest entry undone: its unit stands again as it did, and the entries are those before
abbrev pub undone : List Row → List Entry → Books
undone us [] = record { units = us; entries = [] }
undone us (e ∷ es) =
    record { units = slice_set us e.unit (stood (slice_index_or us e.unit no_unit) e.former); entries = es }

abbrev pub stepped_back : Books → Books
stepped_back b = undone b.units b.entries

-- the entries are out of step back's reach, and go on standing
abbrev pub closed_book : Books → Books
closed_book b = record { units = b.units; entries = [] }

-- the years that a unit serves at a price: the same at every price
abbrev pub years_at : ℕ → Row → ℕ
years_at price u = u.standing.years

-- the capacity of a unit that is in, and the sum of these
abbrev pub in_kw : Row → ℕ
in_kw u = elim u.standing.exit [ None ↦ u.enrolled.capacity | Some price ↦ 0 ]

abbrev pub capacity_inside : List Row → ℕ
capacity_inside [] = 0
capacity_inside (u ∷ us) = in_kw u + capacity_inside us

abbrev pub total_enrolled : List Row → ℕ
total_enrolled [] = 0
total_enrolled (u ∷ us) = u.enrolled.capacity + total_enrolled us

-- the exit of the unit i, as the ranking sees it
abbrev pub leaving : ℕ → Row → ℕ → Leaving
leaving i u price =
    record {
      unit = i;
      price = price;
      capacity = u.enrolled.capacity;
      years = years_at price u;
      random = u.enrolled.random;
      name = u.enrolled.name;
    }

-- the exits at a price of at most the cap, in the order of their units, which are numbered from n on
abbrev pub exits_up_to : ℕ → ℕ → List Row → List Leaving
exits_up_to top n [] = []
exits_up_to top n (u ∷ us) =
    elim u.standing.exit [ None ↦ exits_up_to top (n + 1) us | Some price ↦ cond (nat_le price top) (leaving n u price ∷ exits_up_to top (n + 1) us) (exits_up_to top (n + 1) us) ]
