use Rattle.std.proofs.Common.{take}
use Rattle.std.specs.List.{flat_map}
use Rattle.fk_image.specs.Image.Outs.{Marks, space_links}
use Rattle.fk_image.proofs.image.outs.mark_spaces.Given as goal

abbrev pub invariant-loop-space : goal.invariant-loop-space
invariant-loop-space l = Marks l.fn.used l.used (flat_map space_links (take l.space-index l.spaces))
