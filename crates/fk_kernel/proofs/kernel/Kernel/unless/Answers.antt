use Rattle.fk_kernel.specs.Kernels.{world_of}
use Rattle.fk_kernel.proofs.Scans.{none_besides}
use Rattle.fk_kernel.proofs.kernel.Kernel.unless.Goals as goal

pub returns-in-None-clause-none : goal.returns-in-None-clause-none
returns-in-None-clause-none c = none_besides (world_of c.args.self.now) c.args.besides (rw c.in-None.is at c.requires.none)
