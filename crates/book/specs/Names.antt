-- Names of units. Assumes nothing.
use Rattle.std.specs.Prelude.{ℕ, Bool, true, false, cond, ◌&&◌, ◌||◌, List, [], ◌∷◌, ◌==◌, nat_le}

-- A to Z, 0 to 9 and hyphen
abbrev pub name_character : ℕ → Bool
name_character b = (nat_le 65 b && nat_le b 90) || ((nat_le 48 b && nat_le b 57) || b == 45)

abbrev pub all_spaces : List ℕ → Bool
all_spaces [] = true
all_spaces (b ∷ bs) = b == 32 && all_spaces bs

-- characters, then only spaces
abbrev pub padded : List ℕ → Bool
padded [] = true
padded (b ∷ bs) = cond (name_character b) (padded bs) (b == 32 && all_spaces bs)

-- at least one character first
abbrev pub well_formed : List ℕ → Bool
well_formed [] = false
well_formed (b ∷ bs) = name_character b && padded bs

-- byte by byte the same
abbrev pub same_name : List ℕ → List ℕ → Bool
same_name [] [] = true
same_name [] (y ∷ ys) = false
same_name (x ∷ xs) [] = false
same_name (x ∷ xs) (y ∷ ys) = x == y && same_name xs ys
