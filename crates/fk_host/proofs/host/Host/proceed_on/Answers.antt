use Rattle.std.proofs.Common.{None}
use Rattle.fk_host.proofs.Choosing.{runs-asked}
use Rattle.fk_host.proofs.Quiet.{quiet-turn}
use Rattle.fk_served.proofs.Acts.{runs}
use Rattle.fk_served.specs.Kernels.{world_of as world}
use Rattle.fk_host.proofs.host.Host.proceed_on.Goals as goal

pub returns-in-Made-clause-ready : goal.returns-in-Made-clause-ready
returns-in-Made-clause-ready g c =
    let self = c.args.self.now in
    runs-asked self.services.list (world self.kernel) (record { who = c.args.who; pick = None }) c.in-Made.ensures.made.0

pub returns-in-Made-clause-turn : goal.returns-in-Made-clause-turn
returns-in-Made-clause-turn g c =
    let self = c.args.self.now in
    let made = c.in-Made.ensures.made in
    quiet-turn self.kernel c.proceed_on.new.self self.services.list (record { who = c.args.who; pick = None })
    (runs self.services.list (world self.kernel) c.args.who None made.0) made.1 c.in-Made.ensures.ended
