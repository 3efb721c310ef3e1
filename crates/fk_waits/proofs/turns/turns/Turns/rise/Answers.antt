use Rattle.std.proofs.Common.{inl, sym, subst, ap, ◌∙◌}
use Rattle.fk_waits.specs.Waits.Lists.{stands, woken, Lists}
use Rattle.fk_waits.specs.Turns.Turns.{IsSound}
use Rattle.fk_waits.proofs.InCauses.Numbers.{clash}
use Rattle.fk_waits.proofs.InTurns.Roused.{less_one, off_one}
use Rattle.fk_waits.proofs.InTurns.Woken.{sound_risen}
use Rattle.fk_waits.proofs.turns.turns.Turns.rise.Goals as goal

pub wake-requires : goal.wake-requires
wake-requires c off = clash (stands c.args.who c.args.self.now.waits) c.requires.stands off

pub returns-clause-sound : goal.returns-clause-sound
returns-clause-sound c =
    let was = c.args.self.now in
    subst (λ (l : Lists). IsSound l was.marks) (sym c.wake.ensures) (sound_risen c.args.who was.waits was.marks c.requires.stands c.requires.sound)

pub returns-clause-met : goal.returns-clause-met
returns-clause-met c = record { met = λ x is. inl is; keyed = λ key x is. inl is }

pub returns-clause-less : goal.returns-clause-less
returns-clause-less c = less_one c.args.who c.args.self.now.waits c.wake.new.self (ap (λ (l : Lists). l.queued) c.wake.ensures)

pub returns-clause-away : goal.returns-clause-away
returns-clause-away c = off_one c.args.who c.args.self.now.waits c.wake.new.self (ap (λ (l : Lists). l.queued) c.wake.ensures)
