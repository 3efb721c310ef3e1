use Rattle.std.proofs.Common.{None}
use Rattle.fk_turns.proofs.InSteps.Locked.{free_user, if_true}
use Rattle.fk_turns.proofs.steps.plain.locks_free.Goals as goal

pub may_lock-requires : goal.may_lock-requires
may_lock-requires c = record { unheld = c.is_any_held.ensures c.if-is_any_held.false }

pub returns-clause-up : goal.returns-clause-up
returns-clause-up c = if_true c.may_lock.result (λ ready. (None, ready)) (c.may_lock.ensures.ready)

pub returns-clause-user : goal.returns-clause-user
returns-clause-user c = if_true c.may_lock.result (λ free. free_user c.args.store.now c.args.who free) c.may_lock.ensures.free

pub returns-clause-on : goal.returns-clause-on
returns-clause-on c = if_true c.may_lock.result (λ free so. let off = c.if-ran.false in absurd (cc)) c.may_lock.ensures.free
