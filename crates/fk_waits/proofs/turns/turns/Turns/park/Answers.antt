use Rattle.std.proofs.Common.{◌∙◌}
use Rattle.fk_waits.specs.Waits.Lists.{parked, stands}
use Rattle.fk_waits.proofs.InCauses.Numbers.{clash}
use Rattle.fk_waits.specs.declared.turns.turns.Mark.TheVariants as marks_of
use Rattle.fk_waits.specs.Turns.Turns.{marked_by}
use Rattle.fk_waits.proofs.InTurns.Woken.{sound_by, sound_parked}
use Rattle.fk_waits.proofs.turns.turns.Turns.park.Goals as goal

pub park-requires : goal.park-requires
park-requires c off = clash (stands c.args.who c.args.self.now.waits) c.requires.stands off

pub returns-in-Own-clause-sound : goal.returns-in-Own-clause-sound
returns-in-Own-clause-sound c =
    let was = c.args.self.now in
    sound_by (parked c.args.who c.args.cause was.waits) (marked_by c.args.cause marks_of.Own c.args.who was.marks) c.park.new.self
    c.park-in-Own.new.self c.park.ensures
    c.park-in-Own.ensures (sound_parked marks_of.Own c.args.who c.args.cause was.waits was.marks c.requires.stands c.requires.sound)

pub returns-in-At-clause-sound : goal.returns-in-At-clause-sound
returns-in-At-clause-sound c =
    let was = c.args.self.now in
    sound_by (parked c.args.who c.args.cause was.waits) (marked_by c.args.cause (marks_of.At c.in-At.key) c.args.who was.marks)
    c.mark_at.new.self.waits c.mark_at.new.self.marks (c.mark_at.ensures.waits ∙ c.park.ensures)
    c.mark_at.ensures.marks (sound_parked (marks_of.At c.in-At.key) c.args.who c.args.cause was.waits was.marks c.requires.stands c.requires.sound)

pub returns-in-Loud-clause-sound : goal.returns-in-Loud-clause-sound
returns-in-Loud-clause-sound c =
    let was = c.args.self.now in
    sound_by (parked c.args.who c.args.cause was.waits) (marked_by c.args.cause marks_of.Loud c.args.who was.marks) c.park.new.self
    c.park-in-Loud.new.self c.park.ensures
    c.park-in-Loud.ensures (sound_parked marks_of.Loud c.args.who c.args.cause was.waits was.marks c.requires.stands c.requires.sound)

pub returns-in-Any-clause-sound : goal.returns-in-Any-clause-sound
returns-in-Any-clause-sound c =
    let was = c.args.self.now in
    sound_by (parked c.args.who c.args.cause was.waits) (marked_by c.args.cause marks_of.Any c.args.who was.marks) c.park.new.self c.wake.new.self
    c.park.ensures
    c.wake.ensures (sound_parked marks_of.Any c.args.who c.args.cause was.waits was.marks c.requires.stands c.requires.sound)
