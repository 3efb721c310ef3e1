use Rattle.fk_waits.proofs.causes.causes.Causes.enter.Goals as goal

pub queue_for-head-requires : goal.queue_for-head-requires
queue_for-head-requires c = record { list = c.requires.list; standing = c.requires.standing }

pub enter_at-requires : goal.enter_at-requires
enter_at-requires c =
    let h = c.requires in
    record { list = h.list; standing = c.queue_for-head.ensures.standing h.list h.standing; seat = rw c.queue_for-head.ensures.seats h.seat }

pub returns-clause-standing : goal.returns-clause-standing
returns-clause-standing c l standing seat =
    rw (← c.queue_for-head.ensures.cause)
    (c.enter_at.ensures.standing l (c.queue_for-head.ensures.standing l standing) (rw c.queue_for-head.ensures.seats seat))
