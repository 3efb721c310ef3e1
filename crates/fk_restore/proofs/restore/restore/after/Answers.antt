use Rattle.std.proofs.Common.{sym, ap, ◌∙◌}
use Rattle.laws_restore.specs.Rooms.Restoring.{bound_by, restore_of}
use Rattle.laws_restore.specs.Rooms.Rooms.{rooms_from}
use Rattle.fk_restore.specs.Orders.Left.{image_of}
use Rattle.fk_restore.specs.Restore.Restores.{phase_of}
use Rattle.fk_restore.proofs.restore.restore.after.Goals as goal

pub returns-in-Makes-clause-state : goal.returns-in-Makes-clause-state
returns-in-Makes-clause-state c =
    c.made.ensures.state c.args.words.now
    ∙ ap (λ p. (restore_of c.args.slot (image_of c.args.spaces.now) c.args.pairs.now).next
    (phase_of c.args.spaces.now c.args.slot c.args.pairs.now p) c.args.status c.args.words.now) (sym c.in-Makes.is)

pub returns-in-Clears-clause-sound : goal.returns-in-Clears-clause-sound
returns-in-Clears-clause-sound c = c.cleared.ensures.sound c.args.spaces.now c.args.slot c.args.pairs.now

pub returns-in-Clears-clause-state : goal.returns-in-Clears-clause-state
returns-in-Clears-clause-state c =
    c.cleared.ensures.state c.args.spaces.now c.args.slot c.args.pairs.now
    (bound_by c.args.pairs.now) (rooms_from c.args.spaces.now 0 c.args.spaces.now) c.args.status c.args.words.now
    ∙ ap (λ p. (restore_of c.args.slot (image_of c.args.spaces.now) c.args.pairs.now).next
    (phase_of c.args.spaces.now c.args.slot c.args.pairs.now p) c.args.status c.args.words.now) (sym c.in-Clears.is)
