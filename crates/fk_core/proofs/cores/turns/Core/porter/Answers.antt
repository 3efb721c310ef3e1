use Rattle.std.proofs.Common.{◌∙◌, ap}
use Rattle.fk_jobs.specs.Jobs.{current}
use Rattle.fk_core.specs.Cores.Cores.{porter_of}
use Rattle.fk_core.proofs.cores.turns.Core.porter.Goals as goal

pub returns : goal.returns
returns g c = c.porter.ensures ∙ ap (λ q. porter_of (current q)) c.moment.ensures.jobs
