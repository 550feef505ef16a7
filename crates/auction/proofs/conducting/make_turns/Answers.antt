use Rattle.std.proofs.Common.{◌<◌, ◌≤◌, length, arith}
use Rattle.auction.proofs.TurnByTurn.{playing_start, playing_next, all_played}
use Rattle.auction.proofs.conducting.make_turns.Goals as goal

pub loop-turn-init : goal.loop-turn-init
loop-turn-init g c = playing_start _ _

pub loop-turn-preserved : goal.loop-turn-preserved
loop-turn-preserved g c =
    let lt : c.loop-turn.turn-index < length c.loop-turn.turns = omega arith in
    playing_next _ _ _ _ _ _ _ _ lt c.loop-turn.invariant c.take.ensures.auction c.take.ensures.turn

pub returns : goal.returns
returns g c =
    let le : length c.loop-turn.turns ≤ c.loop-turn.turn-index = omega arith in
    let done = all_played _ _ _ _ _ c.loop-turn.invariant le in
    record { turns = done.0; auction = done.1 }
