use Rattle.fk_waits.specs.Turns.Turns.{all_marks}
use Rattle.fk_waits.proofs.InTurns.Roused.{met_both}
use Rattle.fk_turns.proofs.InMoved.Touched.{freed_one, touched_one}
use Rattle.fk_turns.proofs.moved.moving.touch.Goals as goal

pub returns-clause-touched : goal.returns-clause-touched
returns-clause-touched c =
    touched_one c.args.store.now c.args.who c.args.turns.now.waits c.place.new.turns.waits c.rouse_at.new.self.waits c.place.ensures.placed c.place.ensures.less
    c.place.ensures.away c.rouse_at.ensures.roused

pub returns-clause-freed : goal.returns-clause-freed
returns-clause-freed c =
    let first = c.place.new.turns in
    let second = c.rouse_at.new.self in
    let was = c.args.turns.now in
    freed_one c.args.who (all_marks was.waits was.marks) (all_marks first.waits first.marks) (all_marks second.waits second.marks) first.waits second.waits
    (met_both was.waits was.marks first.waits first.marks c.place.ensures.met c.place.ensures.less)
    (met_both first.waits first.marks second.waits second.marks c.rouse_at.ensures.met c.rouse_at.ensures.roused.less)
    c.rouse_at.ensures.freed c.rouse_at.ensures.roused.less
