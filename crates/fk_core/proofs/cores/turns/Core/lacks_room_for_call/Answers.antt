use Rattle.fk_core.proofs.cores.turns.Core.lacks_room_for_call.Goals as goal

pub returns-in-Ok-clause-still : goal.returns-in-Ok-clause-still
returns-in-Ok-clause-still g c nay unready = absurd (let yes = c.in-Ok.ensures.ready in cc)

pub returns-in-Err-clause-grows : goal.returns-in-Err-clause-grows
returns-in-Err-clause-grows g c grow = rw c.in-Err.ensures.same at (c.call_would_grow.ensures.grows grow)

pub returns-in-Err-clause-still : goal.returns-in-Err-clause-still
returns-in-Err-clause-still g c still unready = rw c.in-Err.ensures.same at (c.call_would_grow.ensures.still still)
