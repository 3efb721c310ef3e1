use Rattle.std.proofs.Common.{sym, ap, ◌∙◌}
use Rattle.laws_restore.specs.Restore.Restore.{State as states}
use Rattle.laws_restore.specs.Rooms.Restoring.{bound_by}
use Rattle.fk_restore.specs.Positions.Positions.{rest}
use Rattle.fk_restore.proofs.InPositions.Scripted.{script_from_the_first}
use Rattle.fk_restore.specs.Orders.Left.{image_of}
use Rattle.fk_restore.proofs.InRestore.Worked.{made_well}
use Rattle.fk_restore.proofs.restore.restore.made.Goals as goal

pub settled_from-requires-clause-place : goal.settled_from-requires-clause-place
settled_from-requires-clause-place c =
    rw c.first.ensures (script_from_the_first (image_of c.args.spaces.now) c.args.slot (bound_by c.args.pairs.now) c.requires.valid).1

pub returns-then-status-eq-OK-clause-state : goal.returns-then-status-eq-OK-clause-state
returns-then-status-eq-OK-clause-state c words =
    ap states.Works (c.settled_from.ensures.rest ∙ ap (rest c.args.spaces.now c.args.slot (bound_by c.args.pairs.now)) c.first.ensures
    ∙ (script_from_the_first (image_of c.args.spaces.now) c.args.slot (bound_by c.args.pairs.now) c.requires.valid).0)
    ∙ made_well _ _ c.args.status c.if-status-eq-OK.true
