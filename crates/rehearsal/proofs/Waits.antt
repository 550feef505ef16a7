-- The lines that wait once an auction has heard a record.
use Rattle.std.proofs.Common.{◌≡◌, List, ◌∷◌, ◌++◌, map, sym, ap, ◌∙◌}
use Rattle.auction.specs.declared.clocks.Stage.TheVariants as stage
use Rattle.auction.specs.Reading.{settlement_of}
use Rattle.auction.specs.Rolls.{roll_of}
use Rattle.listing.specs.declared.line.Line.{Line}
use Rattle.ranking.specs.declared.roll.RollRow.{RollRow}
use Rattle.rehearsal.specs.declared.stages.Session.{Session}
use Rattle.rehearsal.specs.Listing.{award_line, cleared_line}
use Rattle.rehearsal.specs.Saying.{settled_lines, stage_lines}
use Rattle.rehearsal.specs.Sessions.{session_state, session_stage}
use Rattle.rehearsal.proofs.OwnStages.{stage_is}

-- the lines of a settlement, by the stage that the session's clock is of
session_lines : (x : Session) → settled_lines (session_state x) ≡ stage_lines (session_state x) (session_stage x)
session_lines x = ap (stage_lines (session_state x)) (stage_is x)

-- an auction that has settled
pub waits_settled : (first : List Line) (cleared : Line) (rows : List RollRow) (x : Session) → session_stage x ≡ stage.Settled → cleared ≡ cleared_line (session_state x) → rows ≡ roll_of (session_state x) (settlement_of (session_state x)) → first ++ (cleared ∷ map award_line rows) ≡ first ++ settled_lines (session_state x)
waits_settled first cleared rows x at is roll =
    ap (λ l. first ++ l) (ap (λ l. l ∷ map award_line rows) is ∙ ap (λ rs. cleared_line (session_state x) ∷ map award_line rs) roll ∙ sym (session_lines x ∙ ap (stage_lines (session_state x)) at))
