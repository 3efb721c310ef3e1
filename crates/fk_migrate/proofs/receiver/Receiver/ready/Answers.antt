use Rattle.std.proofs.Common.{sym, ◌∙◌}
use Rattle.fk_served.specs.Kernels.{world_of as world}
use Rattle.fk_migrate.proofs.Turning.{none_ready, some_ready}
use Rattle.fk_migrate.proofs.receiver.Receiver.ready.Goals as goal

pub returns-in-Some-clause-ready : goal.returns-in-Some-clause-ready
returns-in-Some-clause-ready g c =
    let self = c.args.self.now in
    λ f is. some_ready self.host.services.list (world self.host.kernel) c.args.m.now _ c.in-Some.ask c.ready.result (sym (c.ask.ensures f is) ∙ c.in-Some.is)
    c.ready.ensures

pub returns-in-None-clause-ready : goal.returns-in-None-clause-ready
returns-in-None-clause-ready g c =
    let self = c.args.self.now in
    λ f is. none_ready self.host.services.list (world self.host.kernel) c.args.m.now _ (sym (c.ask.ensures f is) ∙ c.in-None.is)
