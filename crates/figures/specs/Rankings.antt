-- A handful of exits, with what their rankings should be.
use Rattle.std.specs.Prelude.{◌≡◌, ℕ, ◌<◌, List, [], ◌∷◌, length, codes, slice_index, slice_index_or}
use Rattle.ranking.specs.declared.exits.Exit.{Exit}
use Rattle.ranking.specs.declared.roll.RollRow.{RollRow}
use Rattle.ranking.specs.Ahead.{rule_ahead, name_ahead, roll_ahead}
use Rattle.ranking.specs.Rankings.{Ranking, RanksExits}

abbrev pub ash : Exit
ash = record { unit = 0; price = 3600; capacity = 1000; years = 1; random = 7; name = codes "ASH-1   " }

abbrev pub bay : Exit
bay = record { unit = 1; price = 3600; capacity = 1400; years = 15; random = 2; name = codes "BAY-2   " }

abbrev pub elm : Exit
elm = record { unit = 2; price = 3600; capacity = 1400; years = 10; random = 9; name = codes "ELM-3   " }

abbrev pub yew : Exit
yew = record { unit = 3; price = 3600; capacity = 1400; years = 10; random = 4; name = codes "YEW-4   " }

abbrev pub oak : Exit
oak = record { unit = 4; price = 3600; capacity = 1400; years = 10; random = 4; name = codes "OAK-5   " }

abbrev pub fir : Exit
fir = record { unit = 5; price = 3500; capacity = 1000; years = 15; random = 9; name = codes "FIR-6   " }

abbrev pub all_exits : List Exit
all_exits = ash ∷ bay ∷ elm ∷ yew ∷ oak ∷ fir ∷ []

abbrev pub all_by_rule : List Exit
all_by_rule = fir ∷ yew ∷ oak ∷ elm ∷ bay ∷ ash ∷ []

abbrev pub all_by_name : List Exit
all_by_name = fir ∷ ash ∷ bay ∷ elm ∷ oak ∷ yew ∷ []

-- a unit's row of the roll
abbrev pub roll_row : Exit → RollRow
roll_row e = record { name = e.name; capacity = e.capacity; years = e.years; unit = e.unit }

-- rankings under the rule's tie order
abbrev pub RankedByRule : List Exit → List Exit → Type 0
RankedByRule = RanksExits rule_ahead

-- rankings under the tie order by name
abbrev pub RankedByName : List Exit → List Exit → Type 0
RankedByName = RanksExits name_ahead

-- what the rankings of the exits should be, by what they tie on
pub record WorkedRankings : Type 0 where
  -- on price: the larger capacity; the lower name
  pub price_rule : RankedByRule (ash ∷ bay ∷ []) (bay ∷ ash ∷ [])
  pub price_name : RankedByName (ash ∷ bay ∷ []) (ash ∷ bay ∷ [])
  -- on price and capacity: the fewer years
  pub capacity_rule : RankedByRule (bay ∷ elm ∷ []) (elm ∷ bay ∷ [])
  pub capacity_name : RankedByName (bay ∷ elm ∷ []) (bay ∷ elm ∷ [])
  -- on price, capacity and years: the lower random number
  pub years_rule : RankedByRule (elm ∷ yew ∷ []) (yew ∷ elm ∷ [])
  pub years_name : RankedByName (elm ∷ yew ∷ []) (elm ∷ yew ∷ [])
  -- on all four: the lower unit number
  pub random_rule : RankedByRule (oak ∷ yew ∷ []) (yew ∷ oak ∷ [])
  pub random_name : RankedByName (oak ∷ yew ∷ []) (oak ∷ yew ∷ [])
  -- all of them, and one with a lower price
  pub all_rule : RankedByRule all_exits all_by_rule
  pub all_name : RankedByName all_exits all_by_name
  -- the roll of all the units
  pub roll : Ranking roll_ahead (roll_row fir ∷ roll_row yew ∷ roll_row oak ∷ roll_row elm ∷ roll_row bay ∷ roll_row ash ∷ []) (roll_row ash ∷ roll_row bay ∷ roll_row elm ∷ roll_row fir ∷ roll_row oak ∷ roll_row yew ∷ [])

-- the items have these unit numbers, in this order
pub record NumberedAs {X : Type 0} (unit : X → ℕ) (items : List X) (numbers : List ℕ) : Type 0 where
  pub as_many : length items ≡ length numbers
  pub each : (k : ℕ) (d : X) → k < length items → unit (slice_index_or items k d) ≡ slice_index numbers k
