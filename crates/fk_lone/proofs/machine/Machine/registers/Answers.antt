use Rattle.fk_lone.proofs.LoneSteps.{never-none, read-registers}
use Rattle.fk_lone.proofs.machine.Machine.registers.Goals as goal

pub unreachable-requires : goal.unreachable-requires
unreachable-requires c = never-none _ c.self.invariant c.in-None.ensures.thread

pub returns : goal.returns
returns c = rw (← c.self.view_is) (read-registers _ c.self.invariant c.in-Some.thread.now c.in-Some.ensures.thread)
