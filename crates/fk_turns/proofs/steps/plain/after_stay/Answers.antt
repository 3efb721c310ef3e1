use Rattle.fk_turns.proofs.InSteps.Went.{kept_stay, under_way_user}
use Rattle.fk_turns.proofs.steps.plain.after_stay.Goals as goal

pub returns-then-marks_nobody : goal.returns-then-marks_nobody
returns-then-marks_nobody c =
    let now = c.args.turns.now in
    let none = rw c.if-marks_nobody.true at c.marks_nobody.ensures.none in
    record {
      kept = kept_stay c.args.store.now c.args.mover now.waits now.marks c.requires.quiet none (under_way_user c.args.store.now c.args.mover c.requires.on);
    }
