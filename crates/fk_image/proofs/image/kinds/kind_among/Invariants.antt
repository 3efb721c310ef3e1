use Rattle.std.proofs.Common.{◌≡◌, drop}
use Rattle.fk_image.specs.Image.Objects.{kind_in}
use Rattle.fk_image.proofs.image.kinds.kind_among.Given as goal

abbrev pub invariant-loop-object : goal.invariant-loop-object
invariant-loop-object l = kind_in (drop l.object-index l.items) l.slot ≡ kind_in l.items l.slot
