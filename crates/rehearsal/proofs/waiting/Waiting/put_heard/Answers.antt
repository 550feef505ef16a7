use Rattle.std.proofs.Common.{◌++◌, refl, sym, ap, ◌∙◌}
use Rattle.std.specs.Option.{option_to_list}
use Rattle.rehearsal.specs.declared.stages.Session.TheVariants.{Settled}
use Rattle.rehearsal.specs.Saying.{settled_lines}
use Rattle.rehearsal.specs.Sessions.{session_state}
use Rattle.rehearsal.proofs.Waits.{waits_settled}
use Rattle.rehearsal.proofs.waiting.Waiting.put_heard.Goals as goal

pub returns-in-Settled : goal.returns-in-Settled
returns-in-Settled c =
    let first = option_to_list c.args.line in
    waits_settled first _ _ (Settled c.in-Settled.settled) refl c.cleared_line.ensures c.awards-self-inside.ensures
    ∙ ap (λ x. first ++ settled_lines (session_state x)) (sym c.in-Settled.is)
