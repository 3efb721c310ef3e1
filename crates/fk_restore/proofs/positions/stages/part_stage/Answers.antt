use Rattle.std.proofs.Common.{ap, ◌∙◌}
use Rattle.laws_restore.specs.Rooms.Restoring.{bound_by}
use Rattle.fk_restore.specs.Positions.Passes.{part_at}
use Rattle.fk_restore.specs.Positions.Doing.{stage_in}
use Rattle.fk_restore.proofs.InPositions.Staged.{stage_same}
use Rattle.fk_restore.proofs.positions.stages.part_stage.Goals as goal

pub returns : goal.returns
returns c =
    c.stage_of_part.ensures ∙ ap stage_in c.part_at.ensures
    ∙ stage_same c.args.spaces.now c.args.slot (bound_by c.args.pairs.now)
    (part_at c.args.spaces.now c.args.slot (bound_by c.args.pairs.now) c.args.number c.args.space.now c.args.pass c.args.item c.args.part)
