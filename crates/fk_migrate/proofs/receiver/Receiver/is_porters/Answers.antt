use Rattle.std.proofs.Common.{ap, ◌∙◌}
use Rattle.fk_served.specs.Kernels.{Kept}
use Rattle.fk_served.specs.Kernels.{world_of as world}
use Rattle.fk_migrate.specs.Turns.{is_porters}
use Rattle.fk_migrate.proofs.receiver.Receiver.is_porters.Goals as goal

pub returns : goal.returns
returns g c = c.is_porters.ensures ∙ ap (λ (k : Kept). is_porters (world k) c.args.m.now) c.kernel.ensures
