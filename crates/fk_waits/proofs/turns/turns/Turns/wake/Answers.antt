use Rattle.std.proofs.Common.{sym, ap, ◌∙◌}
use Rattle.fk_waits.specs.Waits.Lists.{parked, woken, Lists}
use Rattle.fk_waits.specs.Turns.Turns.{free_cause}
use Rattle.fk_waits.proofs.InTurns.Roused.{less_one, met_more, met_none, off_one, others_parked}
use Rattle.fk_waits.proofs.InTurns.Woken.{sound_by, sound_woken}
use Rattle.fk_waits.proofs.turns.turns.Turns.wake.Goals as goal

pub park-requires : goal.park-requires
park-requires c off = c.requires.marks (sym (c.requires.sound.both c.args.who) ∙ off)

pub returns-clause-sound : goal.returns-clause-sound
returns-clause-sound c =
    let was = c.args.self.now in
    sound_by (woken c.args.who was.waits) (parked c.args.who free_cause was.marks) c.wake.new.self c.park.new.self c.wake.ensures c.park.ensures
    (sound_woken c.args.who was.waits was.marks c.requires.sound)

pub returns-clause-met : goal.returns-clause-met
returns-clause-met c =
    let was = c.args.self.now in
    met_more was.marks was.marks was.waits c.park.new.self c.wake.new.self c.args.who (met_none was.marks was.waits)
    (ap (λ (l : Lists). l.ready) c.park.ensures) (others_parked c.args.who free_cause was.marks c.park.new.self c.park.ensures)
    (ap (λ (l : Lists). l.queued) c.wake.ensures)

pub returns-clause-less : goal.returns-clause-less
returns-clause-less c = less_one c.args.who c.args.self.now.waits c.wake.new.self (ap (λ (l : Lists). l.queued) c.wake.ensures)

pub returns-clause-away : goal.returns-clause-away
returns-clause-away c = off_one c.args.who c.args.self.now.waits c.wake.new.self (ap (λ (l : Lists). l.queued) c.wake.ensures)
