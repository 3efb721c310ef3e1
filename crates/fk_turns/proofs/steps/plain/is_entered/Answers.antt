use Rattle.std.proofs.Common.{true, ap, sym, ◌≡◌}
use Rattle.std.specs.Bool.{OnTrue}
use Rattle.fk_model.specs.Objects.{Thread, holds}
use Rattle.fk_store.specs.Store.Paths.{path}
use Rattle.fk_store.specs.Store.World.{world}
use Rattle.fk_turns.specs.Moved.Told.{goes_quietly}
use Rattle.fk_turns.proofs.InSteps.Locked.{if_true}
use Rattle.fk_turns.proofs.steps.plain.is_entered.Goals as goal

pub returns-in-Some-clause-quiet : goal.returns-in-Some-clause-quiet
returns-in-Some-clause-quiet c =
    let there = rw c.in-Some.is at c.thread.ensures.thread in
    if_true c.enters_quietly.result (λ quiet. rw (sym there) quiet) (c.enters_quietly.ensures (path c.args.store.now))

pub returns-in-Some-clause-none : goal.returns-in-Some-clause-none
returns-in-Some-clause-none c =
    if_true c.enters_quietly.result (λ quiet. rw c.if-not-marks_nobody.false at c.marks_nobody.ensures.none) (c.enters_quietly.ensures (path c.args.store.now))
