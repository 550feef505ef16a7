-- The rule that a book keeps. Assumes nothing.
use Rattle.std.specs.Prelude.{ℕ, Bool, true, not, ◌&&◌, List, [], ◌∷◌, length, Some, None, nat_le, nat_lt, slice_index_or}
use Rattle.book.specs.declared.entry.Entry.{Entry}
use Rattle.book.specs.declared.unit.Standing.{Standing}
use Rattle.book.specs.declared.unit.Unit.{Unit as Row}
use Rattle.book.specs.Asked.{named}
use Rattle.book.specs.Books.{Books, no_unit, unit_at, total_enrolled}
use Rattle.curve.specs.Meaning.{ceiling}

-- out exactly if there is an exit price
abbrev pub out_if_priced : Standing → Bool
out_if_priced s = elim s.exit [ None ↦ s.inside | Some price ↦ not s.inside ]

-- how a unit may stand that was enrolled with these years
unfoldable pub lawful_standing : ℕ → Standing → Bool
lawful_standing years s = out_if_priced s && (nat_le 1 s.years && nat_le s.years years)

unfoldable pub lawful_unit : Row → Bool
lawful_unit u =
    lawful_standing u.enrolled.years u.standing && (nat_le 1000 u.enrolled.capacity && nat_le u.enrolled.capacity 5000000)

unfoldable pub lawful_units : List Row → Bool
lawful_units [] = true
lawful_units (u ∷ us) = lawful_unit u && lawful_units us

-- no two units have one name
unfoldable pub distinct_names : List Row → Bool
distinct_names [] = true
distinct_names (u ∷ us) = not (named us u.enrolled.name) && distinct_names us

-- there is such a unit, and it may stand so
abbrev pub stood_lawfully : List Row → ℕ → Standing → Bool
stood_lawfully us i former = nat_lt i (length us) && lawful_standing (slice_index_or us i no_unit).enrolled.years former

unfoldable pub lawful_entry : List Row → Entry → Bool
lawful_entry us e = stood_lawfully us e.unit e.former

unfoldable pub lawful_entries : List Row → List Entry → Bool
lawful_entries us [] = true
lawful_entries us (e ∷ es) = lawful_entry us e && lawful_entries us es

unfoldable pub lawful : Books → Bool
lawful b =
    nat_le (length b.units) 512
    && (nat_le (length b.entries) 1024
    && (nat_le (total_enrolled b.units) ceiling
    && (lawful_units b.units && (distinct_names b.units && lawful_entries b.units b.entries))))

-- the unit i can be put out: it exists, it is in, and there is room for an entry
abbrev pub can_leave : Books → ℕ → Bool
can_leave b i = nat_lt i (length b.units) && ((unit_at b i).standing.inside && nat_lt (length b.entries) 1024)
