use Rattle.std.proofs.Common.{sym, ◌∙◌}
use Rattle.laws_restore.specs.Rooms.Restoring.{bound_by}
use Rattle.fk_restore.specs.Orders.Left.{image_of}
use Rattle.fk_restore.proofs.InRestore.Worked.{calls_release, calls_order}
use Rattle.fk_restore.proofs.restore.restore.worked_call.Goals as goal

pub returns-in-None : goal.returns-in-None
returns-in-None c = rw (c.requires.zeros, c.releases.ensures)
    (calls_release (image_of c.args.spaces.now) c.args.slot c.args.pairs.now c.args.at c.requires.sound.1
    (sym c.in-None.is ∙ c.stage_at.ensures))

pub returns-in-Some : goal.returns-in-Some
returns-in-Some c =
    calls_order (image_of c.args.spaces.now) c.args.slot c.args.pairs.now c.args.at c.requires.valid c.requires.sound.0 _ _
    (sym c.in-Some.is ∙ c.stage_at.ensures) (c.words_at.ensures c.args.slot (bound_by c.args.pairs.now))
