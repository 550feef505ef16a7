-- What an auction of the code is, as its calls can tell. Assumes nothing.
use Rattle.std.specs.Prelude.{ℕ, Bool}
use Rattle.auction.specs.declared.auction.Auction.{Auction}
use Rattle.auction.specs.declared.setting.Prices.{Prices}
use Rattle.auction.specs.declared.setting.Setting.{Setting}
use Rattle.auction.specs.State.{State}
use Rattle.auction.specs.Steps.{opened}
use Rattle.book.specs.Views.{books}
use Rattle.curve.specs.Meaning.{Meaning}
use Rattle.ranking.specs.declared.exits.Exit.{Exit}

-- `meaning` and `ahead` say what a demand curve and a tie order mean
abbrev pub state : {C O : Type 0} → (C → Meaning) → (O → Exit → Exit → Bool) → Auction C O → State
state meaning ahead a =
    record {
      number = a.number;
      stage = a.stage;
      round = a.round;
      top = a.top;
      spread = a.spread;
      threshold = a.threshold;
      book = books a.book;
      curve = meaning a.curve;
      ahead = ahead a.order.ties;
    }

-- an auction just opened with these prices, over this curve and this tie order
abbrev pub opened_with : {C O : Type 0} → (C → Meaning) → (O → Exit → Exit → Bool) → ℕ → Prices → Setting C O → State
opened_with meaning ahead number prices setting =
    opened number prices.«cap» prices.spread prices.threshold (meaning setting.curve) (ahead setting.order)
