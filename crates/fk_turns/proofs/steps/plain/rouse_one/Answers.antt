use Rattle.std.proofs.Common.{subst}
use Rattle.fk_model.specs.declared.names.Who.{Who}
use Rattle.fk_waits.specs.Turns.Turns.{all_marks, IsFreed}
use Rattle.fk_waits.specs.Causes.Names.{is_same}
use Rattle.fk_waits.proofs.InCauses.Order.{same_who}
use Rattle.fk_turns.proofs.InSteps.Unknown.{roused_at, roused_nowhere}
use Rattle.fk_turns.proofs.steps.plain.rouse_one.Goals as goal

pub returns-in-Some-clause-roused : goal.returns-in-Some-clause-roused
returns-in-Some-clause-roused c =
    let was = c.args.turns.now in
    let now = c.rouse_at.new.self in
    let who = c.in-Some.who in
    rw c.in-Some.is
    (roused_at (is_same who) was.waits was.marks now.waits now.marks c.rouse_at.ensures.roused c.rouse_at.ensures.met
    (λ key is. subst (λ (w : Who). IsFreed w (all_marks was.waits was.marks) now.waits) (same_who who key is) c.rouse_at.ensures.freed))

pub returns-in-None-clause-roused : goal.returns-in-None-clause-roused
returns-in-None-clause-roused c =
    let was = c.args.turns.now in
    rw c.in-None.is (roused_nowhere was.waits was.marks)
