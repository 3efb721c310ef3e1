use Rattle.fk_turns.proofs.InPicks.Leading.{if_none, stands_picked}
use Rattle.fk_turns.proofs.picks.ports.takes_at.Goals as goal

pub returns-clause-none : goal.returns-clause-none
returns-clause-none c =
    let m = c.args.store.now in
    if_none c.takes_leading.result
    (λ leading q. stands_picked m c.args.picker c.args.port q c.in_default.ensures.none leading) c.takes_leading.ensures.none
