use Rattle.fk_kernel.specs.Kernels.{world_of as world}
use Rattle.fk_served.specs.Acts.{HaveNoActs}
use Rattle.fk_served.proofs.asking.find_act.Given as goal

abbrev pub invariant-loop-at : goal.invariant-loop-at
invariant-loop-at g l = HaveNoActs l.services.list (world l.kernel) l.fn.but l.fn.from l.at
