use Rattle.fk_turns.proofs.InPicks.Leading.{if_none}
use Rattle.fk_turns.proofs.InNext.Scans.{no_move, some_move}
use Rattle.fk_turns.proofs.next.placing.ready_move.Goals as goal

pub returns-then-not-may_move-clause-none : goal.returns-then-not-may_move-clause-none
returns-then-not-may_move-clause-none c = λ up. c.may_move.ensures c.if-not-may_move.true up.0 up.1

pub returns-clause-none : goal.returns-clause-none
returns-clause-none c =
    if_none c.ready_pick.result
    (λ none. no_move c.args.store.now c.args.who (λ is. let no = c.if-ready.false in let yes = c.ready.ensures.1 is in absurd (cc)) none)
    c.ready_pick.ensures.none

pub returns-clause-up : goal.returns-clause-up
returns-clause-up c = some_move c.args.store.now c.args.who c.ready_pick.result c.ready_pick.ensures.ready c.ready_pick.ensures.who
