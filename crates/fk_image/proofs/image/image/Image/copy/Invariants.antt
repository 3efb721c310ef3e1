use Rattle.std.proofs.Common.{◌≡◌, take}
use Rattle.fk_image.proofs.image.image.Image.copy.Given as goal

abbrev pub invariant-loop-space : goal.invariant-loop-space
invariant-loop-space l = l.spaces ≡ take l.space-index l.self.spaces
