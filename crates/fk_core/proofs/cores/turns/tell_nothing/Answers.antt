use Rattle.fk_core.proofs.cores.turns.tell_nothing.Goals as goal

pub returns : goal.returns
returns g c = c.absorb.ensures
