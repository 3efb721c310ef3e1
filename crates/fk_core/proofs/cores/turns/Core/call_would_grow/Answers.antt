use Rattle.fk_core.proofs.cores.turns.Core.call_would_grow.Goals as goal

pub would_grow-requires : goal.would_grow-requires
would_grow-requires g c = record { fit = rw c.words.ensures c.requires.fit }

pub returns-clause-grows : goal.returns-clause-grows
returns-clause-grows g c grow = rw c.words.ensures at (c.would_grow.ensures.grows grow)

pub returns-clause-still : goal.returns-clause-still
returns-clause-still g c still = rw c.words.ensures at (c.would_grow.ensures.still still)
