-- Where a clearing round stops and on which ground, as a relation. Assumes nothing.
use Rattle.std.specs.Prelude.{◌≡◌, ℕ, ◌+◌, ◌<◌, ◌≤◌, Bool, true, false, List, length, Some, None, Option}
use Rattle.curve.specs.Meaning.{Meaning}
use Rattle.curve.specs.Words.{within}
use Rattle.ranking.specs.declared.exits.Exit.{Exit}
use Rattle.clearing.specs.declared.ground.Ground.{Ground}
use Rattle.clearing.specs.declared.ground.Ground.TheVariants.{FloorExact, ExitExact, AllFit, NextTaken, NextLeft}
use Rattle.clearing.specs.declared.settlement.Settlement.{Settlement}
use Rattle.clearing.specs.Margins.{weighed, sign_of, takes}
use Rattle.clearing.specs.Places.{price_at, place_at, exact, LastFit}

-- grounds 1 and 2 do not hold: the sum is exactly the demand at no place
abbrev pub NoneExact : Meaning → ℕ → ℕ → List Exit → Type 0
NoneExact m floor s0 exits = (i : ℕ) → i ≤ length exits → exact m (place_at floor s0 exits i) ≡ false

-- the exit behind place l is taken, weighed against stopping at l
abbrev pub next_taken : Meaning → ℕ → ℕ → List Exit → ℕ → Bool
next_taken m floor s0 exits l =
    takes (place_at floor s0 exits l) (place_at floor s0 exits (l + 1)) (sign_of (weighed m (place_at floor s0 exits l) (place_at floor s0 exits (l + 1))))

-- With the last fit at l, the round stops at place k on a ground. The stopping place is the place up to which ranked exits
-- are awarded, beside all that is in; the ground is the reason for it:
--   1. what is in is exactly the demand at the floor;
--   2. with the exits up to k it is exactly the demand at the price of exit k;
--   3. neither, and all exits fit;
--   4. neither, and the exit behind the last fit is taken by its weight;
--   5. neither, and it is left.
abbrev pub Stops : Meaning → ℕ → ℕ → List Exit → ℕ → Ground → ℕ → Type 0
Stops m floor s0 exits l FloorExact k = (exact m (place_at floor s0 exits 0) ≡ true) × (k ≡ 0)
Stops m floor s0 exits l ExitExact k = (1 ≤ k) × (k ≤ length exits) × (exact m (place_at floor s0 exits k) ≡ true)
Stops m floor s0 exits l AllFit k = NoneExact m floor s0 exits × (l ≡ length exits) × (k ≡ length exits)
Stops m floor s0 exits l NextTaken k =
    NoneExact m floor s0 exits × (l < length exits) × (next_taken m floor s0 exits l ≡ true) × (k ≡ l + 1)
Stops m floor s0 exits l NextLeft k =
    NoneExact m floor s0 exits × (l < length exits) × (next_taken m floor s0 exits l ≡ false) × (k ≡ l)

-- a settlement: ground and stopping place, and the clearing price, which is the price of the stopping place
pub record Settles (m : Meaning) (floor s0 : ℕ) (exits : List Exit) (s : Settlement) : Type 0 where
  pub last : ℕ
  pub last_fit : LastFit m floor s0 exits last
  pub stops : Stops m floor s0 exits last s.ground s.stop
  pub price_is : s.price ≡ price_at floor exits s.stop

-- a round clears exactly when the capacity in is within the demand at the floor
abbrev pub clears : Meaning → ℕ → ℕ → Bool
clears m floor s0 = within m floor s0

-- the outcome of a round: no settlement where it does not clear
abbrev pub Outcome : Meaning → ℕ → ℕ → List Exit → Option Settlement → Type 0
Outcome m floor s0 exits None = clears m floor s0 ≡ false
Outcome m floor s0 exits (Some s) = (clears m floor s0 ≡ true) × Settles m floor s0 exits s
