use Rattle.fk_turns.proofs.InSteps.Went.{kept_still}
use Rattle.fk_turns.proofs.steps.plain.after_still.Goals as goal

pub returns-then-may_stay : goal.returns-then-may_stay
returns-then-may_stay c =
    let now = c.args.turns.now in
    let ran = rw c.if-may_stay.true at c.may_stay.ensures.ran in
    let alone = rw c.if-may_stay.true at c.may_stay.ensures.alone in
    let on = rw c.if-may_stay.true at c.may_stay.ensures.on in
    let none = rw c.if-may_stay.true at c.may_stay.ensures.none in
    let user = rw c.if-may_stay.true at c.may_stay.ensures.user in
    record {
      kept = kept_still c.args.store.now c.args.mover c.args.ran c.args.touched.now now.waits now.marks c.requires.quiet ran alone on none user;
    }
