use Rattle.std.proofs.Common.{ap, ◌∙◌}
use Rattle.fk_image.specs.declared.image.image.Image.{Image}
use Rattle.laws_restore.specs.Restore.Restore.{objects}
use Rattle.laws_restore.specs.Rooms.Rooms.{rooms_of}
use Rattle.fk_sides.proofs.Nearness.{clearing}
use Rattle.fk_sides.proofs.near.decided.Goals as goal

pub returns-in-Ready : goal.returns-in-Ready
returns-in-Ready c =
    λ slot. rw c.in-Ready.is (ap (clearing c.args.spelled.now) (c.count_objects.ensures ∙ ap (λ (i : Image). objects (rooms_of i)) c.image.ensures))
