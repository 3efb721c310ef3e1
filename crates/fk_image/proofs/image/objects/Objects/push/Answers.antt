use Rattle.std.proofs.Common.{◌≤◌}
use Rattle.fk_image.specs.Image.Objects.{next_slot}
use Rattle.fk_image.proofs.InImage.Rising.{rises_more}
use Rattle.fk_image.proofs.InImage.KindLaws.{kinds_more}
use Rattle.fk_image.proofs.image.objects.Objects.push.Goals as goal

pub invariant_of-self-2 : goal.invariant_of-self-2
invariant_of-self-2 c =
    let os = c.self.inside.items.items in
    let o = c.args.item in
    let rise = c.self.invariant.0 in
    let last : next_slot os ≤ o.slot = rw c.self.view_is c.requires in
    let told = rw (c.as_slice.ensures.value, c.in_ok-reserve.ensures.items) at c.in_ok-make_room.ensures.tells in
    rw (c.push_reserved.ensures.items, c.in_ok-reserve.ensures.items, c.put.ensures) (
      rises_more os o rise last,
      kinds_more os o c.make_room.new.numbers.items c.number_of_rec.result rise last told c.in_ok-make_room.ensures.ready c.number_of_rec.ensures,
    )
