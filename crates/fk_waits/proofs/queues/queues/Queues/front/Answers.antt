use Rattle.std.proofs.Common.{map, ap, ◌∙◌}
use Rattle.fk_waits.specs.Queues.Places.{Place}
use Rattle.fk_waits.proofs.InQueues.Places.{first_shown, front_who}
use Rattle.fk_waits.proofs.queues.queues.Queues.front.Goals as goal

pub returns-in-Some : goal.returns-in-Some
returns-in-Some c l filed =
    let q = c.args.self.now in
    c.who_at.ensures ∙ ap (first_shown q.order) (c.in-Some.ensures (map (λ (p : Place). p.key) l) filed.listed) ∙ front_who q.order q.lines l filed.filed

pub returns-in-None : goal.returns-in-None
returns-in-None c l filed =
    let q = c.args.self.now in
    ap (first_shown q.order) (c.in-None.ensures (map (λ (p : Place). p.key) l) filed.listed) ∙ front_who q.order q.lines l filed.filed
