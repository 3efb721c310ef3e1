use Rattle.std.proofs.Common.{◌≡◌, length}
use Rattle.fk_image.specs.Image.Preorder.{from}
use Rattle.fk_image.proofs.image.path.room_under.Given as goal

abbrev pub invariant-loop-one : goal.invariant-loop-one
invariant-loop-one l = from l.space l.path ≡ from l.space l.fn.path

abbrev pub decreases-loop-one : goal.decreases-loop-one
decreases-loop-one l = length l.path
