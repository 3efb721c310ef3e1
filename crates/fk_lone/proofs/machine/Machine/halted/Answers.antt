use Rattle.fk_lone.proofs.LoneSteps.{never-none, read-halted}
use Rattle.fk_lone.proofs.machine.Machine.halted.Goals as goal

pub unreachable-requires : goal.unreachable-requires
unreachable-requires c = never-none _ c.self.invariant c.in-None.ensures.thread

pub returns : goal.returns
returns c = rw (c.code_of.ensures, ← c.self.view_is) (read-halted _ c.self.invariant c.in-Some.thread.now c.in-Some.ensures.thread)
