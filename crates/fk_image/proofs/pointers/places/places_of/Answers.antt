use Rattle.std.proofs.Common.{◌||◌, ap, drop}
use Rattle.std.specs.List.{list_any}
use Rattle.fk_image.specs.Image.Links.{lies_in}
use Rattle.fk_image.specs.Format.Offsets.{Named}
use Rattle.fk_image.proofs.InPointers.Sets.{one_more}
use Rattle.fk_image.proofs.pointers.places.places_of.Goals as goal

pub loop-space-init : goal.loop-space-init
loop-space-init c = λ space slot. ap (λ (named : Named). named space slot || list_any (lies_in space slot) (drop 0 c.args.spaces.now)) c.new-places.ensures

pub loop-space-preserved : goal.loop-space-preserved
loop-space-preserved c =
    λ space slot. one_more c.loop-space.places c.insert.new.self c.args.spaces.now c.loop-space.space-index
    c.space-item.result space slot c.loop-space-test.true c.space-item.is c.in_ok-insert.ensures (c.loop-space.invariant space slot)
