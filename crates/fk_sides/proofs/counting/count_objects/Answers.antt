use Rattle.std.proofs.Common.{List, length, ap, ◌∙◌, arith}
use Rattle.fk_image.specs.declared.image.image.Image.{Image}
use Rattle.fk_image.specs.declared.image.image.SpaceRec.{SpaceRec}
use Rattle.fk_restore.proofs.InOrders.Lefts.{few}
use Rattle.laws_restore.specs.Restore.Restore.{objects}
use Rattle.laws_restore.specs.Rooms.Rooms.{rooms_from}
use Rattle.fk_sides.proofs.counting.count_objects.Goals as goal

pub count_spaces-requires : goal.count_spaces-requires
count_spaces-requires c =
    let long = ap (λ (ss : List SpaceRec). length ss) (c.as_slice.ensures ∙ ap (λ (i : Image). i.spaces) c.get.ensures.same) in
    let all = few c.args.image.now c.get.ensures.valid in
    record { few = omega (arith, long, all) }

pub returns : goal.returns
returns c =
    c.count_spaces.ensures
    ∙ ap (λ (ss : List SpaceRec). objects (rooms_from ss 0 ss)) (c.as_slice.ensures ∙ ap (λ (i : Image). i.spaces) c.get.ensures.same)
