use Rattle.std.proofs.Common.{arith}
use Rattle.std.proofs.lemmas.Grind.{common_steps}
use Rattle.std.proofs.lemmas.Bool.{lt-ltb}
use Rattle.std.proofs.lemmas.Option.{gets}
use Rattle.std.specs.Prelude.{slice_get}
use Rattle.laws_restore.specs.Rooms.Restoring.{bound_by}
use Rattle.fk_restore.proofs.InPositions.Asked.{part_asked}
use Rattle.fk_restore.proofs.positions.stages.asked.Goals as goal

pub returns-then-part-lt6 : goal.returns-then-part-lt6
returns-then-part-lt6 c =
    part_asked c.args.spaces.now c.args.slot (bound_by c.args.pairs.now) c.args.pass c.args.number c.args.item c.args.part
    (slice_get c.args.spaces.now c.args.number) c.in-Some.space.now _ (grind (arith, common_steps, gets))
    (lt-ltb c.args.part 6 c.if-part-lt6.true) c.part_stage.ensures
