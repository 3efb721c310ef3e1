use Rattle.std.proofs.Common.{refl}
use Rattle.fk_burst.specs.Copies.Copies.{burst_of}
use Rattle.fk_burst.proofs.copies.copied.Copied.jump.Goals as goal

pub returns-clause-burst : goal.returns-clause-burst
unfolding burst_of
returns-clause-burst c = refl
