use Rattle.std.proofs.Common.{◌∙◌}
use Rattle.fk_waits.proofs.InTurns.Woken.{sound_stays}
use Rattle.fk_waits.proofs.turns.turns.Turns.rouse_all.Goals as goal

pub returns-clause-sound : goal.returns-clause-sound
returns-clause-sound c =
    let now = c.rouse_marked.new.self in
    sound_stays now.waits now.marks c.wake_all.new.self c.rouse_marked.ensures.sound c.wake_all.ensures.stands

pub returns-clause-stays : goal.returns-clause-stays
returns-clause-stays c who = c.wake_all.ensures.stands who ∙ c.rouse_marked.ensures.roused.stays who
