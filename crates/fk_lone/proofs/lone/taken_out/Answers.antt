use Rattle.fk_lone.proofs.LoneSteps.{never-none}
use Rattle.fk_lone.proofs.Lones.{out}
use Rattle.fk_lone.proofs.lone.taken_out.Goals as goal

pub unreachable-requires : goal.unreachable-requires
unreachable-requires c = never-none _ c.requires c.in-None.ensures.thread

pub returns : goal.returns
returns c = out _ c.requires c.in-Some.thread.now _ c.in-Some.ensures.thread c.code_of.ensures
