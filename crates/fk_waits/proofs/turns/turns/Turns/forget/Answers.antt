use Rattle.std.proofs.Common.{ap}
use Rattle.fk_waits.specs.Waits.Lists.{left, Lists}
use Rattle.fk_waits.proofs.InTurns.Roused.{less_one, met_more, met_none, off_one, others_left}
use Rattle.fk_waits.proofs.InTurns.Woken.{sound_by, sound_left}
use Rattle.fk_waits.proofs.turns.turns.Turns.forget.Goals as goal

pub returns-clause-sound : goal.returns-clause-sound
returns-clause-sound c =
    let was = c.args.self.now in
    sound_by (left c.args.who was.waits) (left c.args.who was.marks) c.leave.new.self c.leave-2.new.self c.leave.ensures c.leave-2.ensures
    (sound_left c.args.who was.waits was.marks c.requires.sound)

pub returns-clause-met : goal.returns-clause-met
returns-clause-met c =
    let was = c.args.self.now in
    met_more was.marks was.marks was.waits c.leave-2.new.self c.leave.new.self c.args.who (met_none was.marks was.waits)
    (ap (λ (l : Lists). l.ready) c.leave-2.ensures) (others_left c.args.who was.marks c.leave-2.new.self c.leave-2.ensures)
    (ap (λ (l : Lists). l.queued) c.leave.ensures)

pub returns-clause-less : goal.returns-clause-less
returns-clause-less c = less_one c.args.who c.args.self.now.waits c.leave.new.self (ap (λ (l : Lists). l.queued) c.leave.ensures)

pub returns-clause-away : goal.returns-clause-away
returns-clause-away c = off_one c.args.who c.args.self.now.waits c.leave.new.self (ap (λ (l : Lists). l.queued) c.leave.ensures)
