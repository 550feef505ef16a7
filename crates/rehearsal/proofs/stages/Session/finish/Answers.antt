use Rattle.std.proofs.Common.{sym, ap, ◌∙◌}
use Rattle.rehearsal.specs.Sessions.{session_state, session_stage}
use Rattle.rehearsal.proofs.OwnStages.{stage_is}
use Rattle.rehearsal.proofs.Takings.{finish_lines}
use Rattle.rehearsal.proofs.stages.Session.finish.Goals as goal

pub returns : goal.returns
returns c =
    let was = c.args.self in
    let begins = c.begun-session.result in
    record {
      auction = c.begun-session.ensures;
      line = finish_lines (session_state was) (session_stage was) (session_stage begins) _ (stage_is was) (ap (λ s. s.stage) (sym c.begun-session.ensures) ∙ stage_is begins) c.unsettled_line-line.ensures;
    }
