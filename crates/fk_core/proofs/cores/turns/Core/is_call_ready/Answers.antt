use Rattle.fk_core.proofs.cores.turns.Core.is_call_ready.Goals as goal

pub returns : goal.returns
returns g c = rw c.words.ensures at c.ready.ensures.ready
