use Rattle.fk_turns.proofs.InPicks.Leading.{by_reference, by_thread, if_none}
use Rattle.fk_turns.proofs.picks.ports.takes_by.Goals as goal

pub returns-in-Some-clause-none : goal.returns-in-Some-clause-none
returns-in-Some-clause-none c =
    if_none c.picked.result (by_thread c.args.store.now c.args.picker c.args.from _ c.in-Some.ensures.thread) c.picked.ensures.none

pub returns-in-None-clause-none : goal.returns-in-None-clause-none
returns-in-None-clause-none c =
    if_none c.takes_by_reference.result (by_reference c.args.store.now c.args.picker c.args.from c.in-None.ensures.thread) c.takes_by_reference.ensures.none
