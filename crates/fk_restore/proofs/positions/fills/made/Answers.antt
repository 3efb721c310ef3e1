use Rattle.std.proofs.Common.{arith}
use Rattle.std.proofs.lemmas.Grind.{common_steps}
use Rattle.std.proofs.lemmas.Option.{gets}
use Rattle.fk_restore.specs.Positions.Passes.{makes_object}
use Rattle.fk_restore.proofs.InPositions.Asked.{object_asked}
use Rattle.fk_restore.proofs.positions.fills.made.Goals as goal

pub returns-in-Some : goal.returns-in-Some
returns-in-Some c ss slot bind n s =
    object_asked ss slot bind n s (makes_object ss slot bind n s) c.args.item c.args.objects.now c.in-Some.object.now _ (grind (arith, common_steps, gets))
    (c.makes_object.ensures ss slot bind n s)
