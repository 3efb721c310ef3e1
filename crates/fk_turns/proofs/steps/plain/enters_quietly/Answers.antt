use Rattle.std.proofs.Common.{sym, ◌∙◌}
use Rattle.fk_turns.proofs.InSteps.Went.{quiet_at}
use Rattle.fk_turns.proofs.steps.plain.enters_quietly.Goals as goal

pub returns-in-Some : goal.returns-in-Some
returns-in-Some c p =
    quiet_at p c.args.thread.now c.in-Some.stage c.is_reachable_stage.result (sym c.is_some.ensures ∙ c.if-is_some.false)
    (rw c.in-Some.is at c.first_stage.ensures p) c.is_reachable_stage.ensures
