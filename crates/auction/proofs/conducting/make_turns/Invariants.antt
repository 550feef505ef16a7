use Rattle.auction.specs.Promise.{calls_of}
use Rattle.auction.specs.Views.{state}
use Rattle.auction.proofs.TurnByTurn.{Playing}
use Rattle.auction.proofs.conducting.make_turns.Given as goal

abbrev pub invariant-loop-turn : goal.invariant-loop-turn
invariant-loop-turn g l =
    Playing (state g.C.Curve.meaning g.O.Order.ahead l.initial.auction) (calls_of l.initial.turns)
    (state g.C.Curve.meaning g.O.Order.ahead l.auction) l.turns l.turn-index
