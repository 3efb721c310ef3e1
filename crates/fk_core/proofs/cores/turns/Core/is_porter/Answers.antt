use Rattle.std.proofs.Common.{◌∙◌, ap}
use Rattle.fk_core.specs.Cores.Cores.{is_porter}
use Rattle.fk_core.proofs.cores.turns.Core.is_porter.Goals as goal

pub returns : goal.returns
returns g c = c.is_porter.ensures ∙ ap (λ q. is_porter q c.args.who) c.moment.ensures.jobs
