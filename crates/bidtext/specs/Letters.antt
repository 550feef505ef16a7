-- The kinds of bytes that a line is made of. Assumes nothing.
use Rattle.std.specs.Prelude.{ℕ, Bool, not, ◌&&◌, ◌||◌, ◌==◌, nat_le}

abbrev pub within : ℕ → ℕ → ℕ → Bool
within low high b = nat_le low b && nat_le b high

-- a blank is a space, a tab or a carriage return
abbrev pub blank : ℕ → Bool
blank b = b == 32 || (b == 9 || b == 13)

-- the bytes of which fields are made: no blanks, and no `#`, which begins a comment
abbrev pub inner : ℕ → Bool
inner b = not (blank b) && not (b == 35)

-- the padding of a name
abbrev pub space : ℕ → Bool
space b = b == 32

abbrev pub digit : ℕ → Bool
digit b = within 48 57 b

abbrev pub hexadecimal : ℕ → Bool
hexadecimal b = within 48 57 b || (within 65 70 b || within 97 102 b)

-- the marks of a name, which are printable and no `#`
abbrev pub mark : ℕ → Bool
mark b = within 33 126 b && not (b == 35)
