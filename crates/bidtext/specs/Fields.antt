-- The fields of a line of text. Assumes nothing.
use Rattle.std.specs.Prelude.{ℕ, cond, List, [], ◌∷◌, ◌==◌, slice_index_or}
use Rattle.std.specs.List.{onto_first}
use Rattle.bidtext.specs.Letters.{blank}

-- a line up to its comment, cut at each blank
abbrev pub pieces : List ℕ → List (List ℕ)
pieces [] = [] ∷ []
pieces (b ∷ bs) = cond (b == 35) ([] ∷ []) (cond (blank b) ([] ∷ pieces bs) (onto_first b (pieces bs)))

-- the pieces that are not empty
abbrev pub filled : List (List ℕ) → List (List ℕ)
filled [] = []
filled ([] ∷ ps) = filled ps
filled ((b ∷ bs) ∷ ps) = (b ∷ bs) ∷ filled ps

-- the fields of a line
unfoldable pub fields : List ℕ → List (List ℕ)
fields line = filled (pieces line)

-- the field at a place, counted from 0; none is the empty one
abbrev pub field_at : List (List ℕ) → ℕ → List ℕ
field_at fs k = slice_index_or fs k []

-- the fields after the first
abbrev pub after : List (List ℕ) → List (List ℕ)
after [] = []
after (f ∷ fs) = fs
