-- What a ranking of exits says of their prices.
use Rattle.std.proofs.Common.{◌≡◌, ◌≤◌, Bool, true, List, ⊎_elim, arith}
use Rattle.std.specs.List.Sorted.{IsNonDecreasingBy}
use Rattle.std.proofs.lemmas.Bool.{cases_lt}
use Rattle.std.proofs.lemmas.Bool.Decides.{nat_tests}
use Rattle.ranking.specs.declared.exits.Exit.{Exit}
use Rattle.ranking.specs.Ahead.{price_ahead}
use Rattle.ranking.specs.Rankings.{InOrder}
use Rattle.ranking.proofs.Ranks.{in_order_at}

-- an exit ahead of another has no higher price
pub ahead_price : (ties : Exit → Exit → Bool) (a b : Exit) → price_ahead ties a b ≡ true → a.price ≤ b.price
ahead_price ties a b h = grind (arith, nat_tests)

-- along exits in order the price never falls
pub prices_rise : (ties : Exit → Exit → Bool) (exits : List Exit) → InOrder (price_ahead ties) exits → IsNonDecreasingBy (λ e. e.price) exits
prices_rise ties exits ordered i j d le below =
    ⊎_elim (λ lt. ahead_price ties _ _ (in_order_at (price_ahead ties) exits i j d lt below ordered))
    (λ (ge : j ≤ i). let e : i ≡ j = omega arith in rw e (omega arith))
    (cases_lt i j)
