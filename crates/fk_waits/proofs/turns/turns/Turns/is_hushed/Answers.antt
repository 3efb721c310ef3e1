use Rattle.std.proofs.Common.{◌||◌, Bool, ap, ◌∙◌}
use Rattle.fk_waits.specs.Turns.Turns.{loud_cause}
use Rattle.fk_waits.specs.Waits.Lists.{is_cause}
use Rattle.fk_waits.proofs.InTurns.Roused.{none_at, some_at}
use Rattle.fk_waits.proofs.InTurns.Woken.{cause_in_both}
use Rattle.fk_waits.proofs.turns.turns.Turns.is_hushed.Goals as goal

pub returns-in-Some : goal.returns-in-Some
returns-in-Some c =
    let now = c.args.self.now in
    cause_in_both loud_cause now.marks.queued now.waits.queued
    ∙ ap (λ (t : Bool). t || is_cause loud_cause now.waits.queued) (some_at loud_cause _ now.marks.queued c.in-Some.ensures)

pub returns-in-None : goal.returns-in-None
returns-in-None c =
    let now = c.args.self.now in
    cause_in_both loud_cause now.marks.queued now.waits.queued
    ∙ ap (λ (t : Bool). t || is_cause loud_cause now.waits.queued) (none_at loud_cause now.marks.queued c.in-None.ensures) ∙ c.is_none_there.ensures
