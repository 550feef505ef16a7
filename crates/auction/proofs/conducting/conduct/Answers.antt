use Rattle.std.proofs.Common.{sym, ap, ◌∙◌}
use Rattle.auction.specs.History.{played, ended}
use Rattle.auction.specs.Promise.{calls_of}
use Rattle.auction.specs.State.{State}
use Rattle.auction.proofs.Promised.{promised, settled_priced}
use Rattle.auction.proofs.conducting.conduct.Goals as goal

pub returns : goal.returns
returns g c =
    let start = c.in_ok-auction.ensures.opens.0 in
    let calls = calls_of c.args.turns.now in
    let turns = c.make_turns.ensures.turns ∙ ap (λ (s : State). played s calls) start in
    let end = c.make_turns.ensures.auction ∙ ap (λ (s : State). ended s calls) start in
    let promise = promised _ _ _ _ _ _ (g.met.C.Curve.keeps c.args.setting.curve) (g.met.O.Order.laws c.args.setting.order)
    (sym c.in_ok-auction.ensures.refusal) calls _ _ turns end in
    record {
      refusal = c.in_ok-auction.ensures.refusal;
      back = tt;
      plays = (turns, end);
      live = c.live-live.ensures;
      promise = promise;
      settled = settled_priced _ _ _ promise;
    }
