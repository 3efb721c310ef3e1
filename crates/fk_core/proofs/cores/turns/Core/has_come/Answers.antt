use Rattle.std.proofs.Common.{◌∙◌, ap}
use Rattle.fk_core.specs.Cores.Cores.{has_come}
use Rattle.fk_core.proofs.cores.turns.Core.has_come.Goals as goal

pub returns : goal.returns
returns g c =
    let self = c.args.self.now in
    let moment = c.moment.result in
    c.has_come.ensures ∙ ap (λ q. has_come q moment.budget moment.events) c.moment.ensures.jobs
    ∙ ap (λ b. has_come self.jobs b moment.events) c.moment.ensures.budget ∙ ap (λ e. has_come self.jobs self.budget e) c.moment.ensures.events
