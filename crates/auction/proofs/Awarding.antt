-- What the code asks of a unit to be awarded. Assumes nothing.
use Rattle.std.proofs.Common.{◌≡◌, ℕ, ◌<◌, true, List, length, get_or, sym, ap, ◌∙◌, subst, arith}
use Rattle.std.proofs.lemmas.List.{get_or_default}
use Rattle.book.specs.Books.{Books, no_unit, unit_at}
use Rattle.book.specs.declared.unit.Unit.{Unit as Row}
use Rattle.book.specs.Lawful.{lawful, out_if_priced}
use Rattle.book.proofs.Rules.{lawful_keeps, lawful_at, unit_stands}

-- a unit of a book is out exactly if it has an exit price
pub unit_priced : (b : Books) (i : ℕ) (u : Row) → u ≡ unit_at b i → lawful b ≡ true → i < length b.units → out_if_priced u.standing ≡ true
unit_priced b i u is h lt =
    subst (λ (v : Row). out_if_priced v.standing ≡ true) (sym is) (unit_stands _ (lawful_at b.units i (lawful_keeps b h).units lt)).priced

-- a unit read from the lent units
pub row_read : (b : Books) (us : List Row) (i : ℕ) (d : Row) → us ≡ b.units → i < length us → get_or us i d ≡ unit_at b i
row_read b us i d these lt = get_or_default us i d no_unit lt ∙ ap (λ (vs : List Row). get_or vs i no_unit) these

pub row_priced : (b : Books) (us : List Row) (i : ℕ) (d : Row) → lawful b ≡ true → us ≡ b.units → i < length us → out_if_priced (get_or us i d).standing ≡ true
row_priced b us i d h these lt = unit_priced b i _ (row_read b us i d these lt) h (let same = ap length these in omega arith)
