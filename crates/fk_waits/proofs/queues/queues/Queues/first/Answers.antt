use Rattle.std.proofs.Common.{ap, ◌∙◌}
use Rattle.fk_waits.specs.Queues.Places.{in_queue}
use Rattle.fk_waits.proofs.InQueues.Places.{first_shown, first_who}
use Rattle.fk_waits.proofs.queues.queues.Queues.first.Goals as goal

pub returns-in-Some : goal.returns-in-Some
returns-in-Some c l filed =
    let q = c.args.self.now in
    c.who_at.ensures ∙ ap (first_shown q.lines) (c.in-Some.ensures (in_queue c.args.head l) (filed.lines c.args.head c.requires.head))
    ∙ first_who q.order q.lines c.args.head l filed.filed

pub returns-in-None : goal.returns-in-None
returns-in-None c l filed =
    let q = c.args.self.now in
    ap (first_shown q.lines) (c.in-None.ensures (in_queue c.args.head l) (filed.lines c.args.head c.requires.head))
    ∙ first_who q.order q.lines c.args.head l filed.filed
