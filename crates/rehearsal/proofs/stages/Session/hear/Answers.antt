use Rattle.std.proofs.Common.{◌≡◌, true, sym, ap, ◌∙◌, subst}
use Rattle.bidfile.specs.Items.{item_of, item_kind}
use Rattle.rehearsal.specs.Hearing.{begun_for, called, has_call}
use Rattle.rehearsal.specs.Sessions.{session_state, session_stage}
use Rattle.rehearsal.proofs.Hears.{hears, callable}
use Rattle.rehearsal.proofs.OwnStages.{stage_is}
use Rattle.rehearsal.proofs.stages.Session.hear.Goals as goal

pub call-session-requires : goal.call-session-requires
call-session-requires c =
    let was = c.args.self in
    let item = item_of c.args.said.«record» in
    let begins = c.begun_for.result in
    let now-stage : (begun_for (session_state was) item (session_stage was)).stage ≡ session_stage begins = ap (λ s. s.stage) (sym c.begun_for.ensures) ∙ stage_is begins in
    (subst (λ z. has_call z (item_kind item) ≡ true) now-stage (callable (session_state was) item (session_stage was) (stage_is was) c.requires.0), c.requires.1)

pub returns : goal.returns
returns c =
    let was = c.args.self in
    let item = item_of c.args.said.«record» in
    record {
      lines = hears c.args.said.place (session_state was) (session_state c.call-session.result.0) (session_state c.gone_on.result) item (session_stage was) (session_stage c.call-session.result.0) c.call-session.result.1 (stage_is was) c.requires.0 (c.call-session.ensures ∙ ap (λ z. called c.args.said.place z item) c.begun_for.ensures) (stage_is c.call-session.result.0) c.gone_on.ensures.state;
      stage = c.gone_on.ensures.stage;
    }
