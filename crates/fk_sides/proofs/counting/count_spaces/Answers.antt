use Rattle.std.proofs.Common.{◌≡◌, Some, arith}
use Rattle.std.specs.Prelude.{slice_get}
use Rattle.std.proofs.lemmas.Grind.{common_steps}
use Rattle.std.proofs.lemmas.Option.{gets, slice_get_within}
use Rattle.fk_restore.proofs.InRestore.Counted.{room_counted}
use Rattle.fk_sides.proofs.counting.count_spaces.Goals as goal

pub loop-space-preserved : goal.loop-space-preserved
loop-space-preserved c =
    let here : slice_get c.args.spaces.now c.loop-space.number ≡ Some c.in-Some.space.now = grind (arith, common_steps, gets) in
    let step = room_counted c.args.spaces.now c.loop-space.number c.in-Some.space.now here in
    let within = slice_get_within c.args.spaces.now c.loop-space.number c.in-Some.space.now here in
    let counted = c.count_room-count.ensures.count in
    let small = c.count_room-count.ensures.small in
    let so_far = c.loop-space.invariant.0 in
    let bound = c.loop-space.invariant.1 in
    (omega (arith, step, counted, so_far), omega (arith, small, bound), omega (arith, within))
