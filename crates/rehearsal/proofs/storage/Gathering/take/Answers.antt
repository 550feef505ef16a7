use Rattle.std.proofs.Common.{vec_items}
use Rattle.bidfile.specs.Items.{item_of}
use Rattle.rehearsal.specs.Chosen.{auction_state}
use Rattle.rehearsal.specs.Sessions.{session_state}
use Rattle.rehearsal.proofs.Takings.{opened_takes, not_corner}
use Rattle.rehearsal.proofs.storage.Gathering.take.Goals as goal

pub returns : goal.returns
returns c =
    let was = c.args.self in
    record {
      lines = opened_takes was.terms (vec_items was.corners) c.args.said.place (item_of c.args.said.«record») (auction_state c.in_ok-held.held.auction) (session_state c.hear-session.result.0) c.hear-session.result.1 (not_corner c.args.said.«record» c.in_default.not-Corner) c.in_ok-held.ensures c.hear-session.ensures.lines;
      stage = c.hear-session.ensures.stage;
    }
