use Rattle.std.proofs.Common.{◌≡◌, take}
use Rattle.fk_image.proofs.image.copy.copy_items.Given as goal

abbrev pub invariant-loop-object : goal.invariant-loop-object
invariant-loop-object l = l.copy.items ≡ take l.object-index l.items
