use Rattle.std.proofs.Common.{ap, subst, ◌∙◌}
use Rattle.fk_waits.specs.Waits.Lists.{Lists}
use Rattle.fk_turns.proofs.InMoved.Filled.{filled_first, filled_more, kept_filled, AreFilled}
use Rattle.fk_turns.proofs.moved.filling.of.Goals as goal

pub loop-at-init : goal.loop-at-init
loop-at-init c =
    let first = c.in_ok-turns.ensures.waits in
    let room = c.in_ok-reserve_for.ensures in
    filled_first c.args.store.now c.reserve_for.new.self.waits c.reserve_for.new.self.marks c.after-at.result
    (room.ready ∙ ap (λ (l : Lists). l.ready) first) (room.queued ∙ ap (λ (l : Lists). l.queued) first) room.sound c.after-at.ensures.first

pub loop-at-preserved : goal.loop-at-preserved
loop-at-preserved c =
    let m = c.args.store.now in
    let before = subst (AreFilled m c.loop-at.turns.waits c.loop-at.turns.marks) c.in-Some.is c.loop-at.invariant in
    filled_more m c.loop-at.turns.waits c.loop-at.turns.marks c.add.new.turns.waits c.add.new.turns.marks c.in-Some.who c.after-at-in-Some.result before
    c.in_ok-add.ensures.sound c.in_ok-add.ensures.none c.in_ok-add.ensures.stands c.after-at-in-Some.ensures.first

pub returns : goal.returns
returns c =
    let m = c.args.store.now in
    kept_filled m c.loop-at.turns.waits c.loop-at.turns.marks
    (subst (AreFilled m c.loop-at.turns.waits c.loop-at.turns.marks) c.in_default.is c.loop-at.invariant)
