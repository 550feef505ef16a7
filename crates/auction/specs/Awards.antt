-- What a settlement awards. Assumes nothing.
use Rattle.std.specs.Prelude.{ℕ, Bool, cond, ◌||◌, List, take, ◌==◌}
use Rattle.std.specs.List.{list_any}
use Rattle.auction.specs.State.{State, ranked_exits}
use Rattle.book.specs.Books.{unit_at, years_at}
use Rattle.clearing.specs.declared.settlement.Settlement.{Settlement}
use Rattle.ranking.specs.declared.exits.Exit.{Exit}

-- the unit i has an exit among these
abbrev pub among : ℕ → List Exit → Bool
among i exits = list_any (λ e. i == e.unit) exits

-- the exits that are awarded: those up to the stopping place
abbrev pub awarded_exits : State → Settlement → List Exit
awarded_exits s settled = take settled.stop (ranked_exits s)

-- the awarded units: those still in, and those of the awarded exits
abbrev pub is_awarded : State → Settlement → ℕ → Bool
is_awarded s settled i = (unit_at s.book i).standing.inside || among i (awarded_exits s settled)

-- what the unit i is awarded: its whole capacity with its years at the clearing price, or nothing
abbrev pub award_of : State → Settlement → ℕ → ℕ × ℕ
award_of s settled i =
    cond (is_awarded s settled i) ((unit_at s.book i).enrolled.capacity, years_at settled.price (unit_at s.book i)) (0, 0)
