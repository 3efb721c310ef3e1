use Rattle.std.proofs.Common.{[]}
use Rattle.fk_waits.proofs.InTurns.Woken.{sound_by, sound_none}
use Rattle.fk_waits.proofs.turns.turns.Turns.new.Goals as goal

pub returns-clause-sound : goal.returns-clause-sound
returns-clause-sound c =
    sound_by (record { ready = []; queued = []; spare = 0 }) (record { ready = []; queued = []; spare = 0 }) c.in_ok-waits.waits c.in_ok-marks.marks
    c.in_ok-waits.ensures c.in_ok-marks.ensures sound_none
