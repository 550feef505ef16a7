-- Places in the ranking of a clearing round's exits, and which exits fit the demand. Assumes nothing.
use Rattle.std.specs.Prelude.{◌≡◌, ℕ, ◌+◌, ◌*◌, ◌<◌, ◌≤◌, Bool, true, false, List, ◌∷◌, map, length, take, sum_by, slice_index}
use Rattle.curve.specs.Meaning.{Meaning}
use Rattle.curve.specs.Words.{within, exactly}
use Rattle.ranking.specs.declared.exits.Exit.{Exit}
use Rattle.clearing.specs.declared.place.Place.{Place}

-- Place i lies behind the first i exits of the ranking. Its price is that of the last of them, and the floor at place 0.
abbrev pub price_at : ℕ → List Exit → ℕ → ℕ
price_at floor exits i = slice_index (floor ∷ map (λ e. e.price) exits) i

-- The sum at place i: the capacity in, which is the capacity still in when the round is closed, and the first i capacities.
abbrev pub sum_at : ℕ → List Exit → ℕ → ℕ
sum_at s0 exits i = s0 + sum_by (λ e. e.capacity) (take i exits)

-- a place with its number, its price and its sum
abbrev pub place_at : ℕ → ℕ → List Exit → ℕ → Place
place_at floor s0 exits i = record { number = i; price = price_at floor exits i; sum = sum_at s0 exits i }

-- the place before every exit
abbrev pub first_place : ℕ → ℕ → Place
first_place floor s0 = record { number = 0; price = floor; sum = s0 }

-- the place behind one more exit
abbrev pub place_after : Place → Exit → Place
place_after at e = record { number = at.number + 1; price = e.price; sum = at.sum + e.capacity }

-- what the sum at a place costs at its price, in pence
abbrev pub cost : Place → ℕ
cost at = at.price * at.sum

-- the sum at a place is within the demand at its price
abbrev pub fits : Meaning → Place → Bool
fits m at = within m at.price at.sum

-- the sum at a place is exactly the demand at its price
abbrev pub exact : Meaning → Place → Bool
exact m at = exactly m at.price at.sum

-- The last fit: the last place such that all exits up to it fit. It is 0 if the first exit does not fit.
pub record LastFit (m : Meaning) (floor s0 : ℕ) (exits : List Exit) (l : ℕ) : Type 0 where
  pub inside : l ≤ length exits
  pub all_fit : (i : ℕ) → 1 ≤ i → i ≤ l → fits m (place_at floor s0 exits i) ≡ true
  pub next_not : l < length exits → fits m (place_at floor s0 exits (l + 1)) ≡ false
