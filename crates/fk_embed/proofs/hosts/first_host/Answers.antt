use Rattle.std.proofs.Common.{◌∙◌, ap}
use Rattle.fk_embed.proofs.Hosting.{all-fit, placed-first, shown-sound}
use Rattle.fk_served.specs.Kernels.{world_of as world}
use Rattle.fk_embed.proofs.hosts.first_host.Goals as goal

pub returns-clause-first : goal.returns-clause-first
returns-clause-first c =
    let made = c.in_ok-host.ensures in
    let first = c.in_ok-first.first in
    let w = world first.kernel in
    record {
      world_is = ap world made.kernel ∙ c.in_ok-first.ensures.world;
      servers = rw (made.kernel, made.services) (placed-first w first.services.items ∙ c.in_ok-first.ensures.services);
      sound = rw (made.kernel, made.services) (shown-sound c.args.scenario.now w first.services.items first.budget
          c.in_ok-first.ensures.budget c.in_ok-first.ensures.sound);
    }

pub returns-clause-fits : goal.returns-clause-fits
returns-clause-fits c = λ rules has. rw c.in_ok-host.ensures.services (all-fit rules (world c.in_ok-first.first.kernel) c.in_ok-first.first.services.items
    c.args.scenario.now.servers c.in_ok-first.ensures.services has)
