use Rattle.fk_turns.proofs.InPicks.Leading.{if_none}
use Rattle.fk_turns.proofs.InNext.Scans.{no_move, some_move}
use Rattle.fk_turns.proofs.next.taking.likely_move.Goals as goal

pub returns-then-not-may_move-clause-none : goal.returns-then-not-may_move-clause-none
returns-then-not-may_move-clause-none c = λ up. c.may_move.ensures c.if-not-may_move.true up.0 up.1

pub returns-clause-none : goal.returns-clause-none
returns-clause-none c =
    if_none c.likely_pick.result
    (λ none. no_move c.args.store.now c.args.who (λ is. let no = c.if-ready.false in let yes = c.ready.ensures.1 is in absurd (cc)) none)
    c.likely_pick.ensures.none

pub returns-clause-up : goal.returns-clause-up
returns-clause-up c = some_move c.args.store.now c.args.who c.likely_pick.result c.likely_pick.ensures.ready c.likely_pick.ensures.who
