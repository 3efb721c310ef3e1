use Rattle.std.proofs.Common.{◌≡◌, ◌+◌, ◌∙◌, sym}
use Rattle.fk_image.specs.Image.Objects.{next_slot}
use Rattle.fk_codec.proofs.InReading.Loops.{objects_go}
use Rattle.fk_codec.proofs.reading.objects.objects_from.Goals as goal

pub loop-preserved : goal.loop-preserved
loop-preserved c =
    let so_far = c.loop.invariant in
    let floor : next_slot c.add_object.new.objects ≡ c.from-floor.result + 1 = rw c.from-floor.ensures c.in_ok-slot.ensures.last in
    let go = objects_go c.args.newer c.args.count
    c.loop.counter c.loop.floor c.loop.objects c.loop.rest.now c.add_object.new.objects c.in_ok-slot.after.now c.loop-test.true c.in_ok-slot.ensures.read in
    (sym floor, rw (← floor) (sym go ∙ so_far.1))
