use Rattle.std.proofs.Common.{arith}
use Rattle.fk_lone.proofs.Lones.{page_never_none}
use Rattle.fk_lone.proofs.lone.word_at.Goals as goal

pub unreachable-requires : goal.unreachable-requires
unreachable-requires c = page_never_none _ c.requires _ (omega arith) c.in-None.ensures
