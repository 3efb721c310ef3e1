use Rattle.std.proofs.Common.{ap, ◌∙◌}
use Rattle.fk_served.specs.Kernels.{Kept}
use Rattle.fk_served.specs.Kernels.{world_of as world}
use Rattle.fk_migrate.specs.Turns.{is_porters}
use Rattle.fk_migrate.proofs.Faring.{far_turned}
use Rattle.fk_migrate.proofs.receiver.Receiver.turn.Goals as goal

pub returns-clause-lands : goal.returns-clause-lands
returns-clause-lands g c =
    let self = c.args.self.now in
    far_turned self.far.slot self.host.kernel c.turn.new.self.kernel self.host.services.list c.turn.new.self.services.list c.args.m.now c.in_ok-said.said
    self.far.makes c.hear.new.far.makes c.ask.result c.in-Some.ask c.is_porters-is_own.result c.ask.ensures c.in-Some.is c.in_ok-said.ensures.turn
    (c.is_porters-is_own.ensures ∙ ap (λ (k : Kept). is_porters (world k) c.args.m.now) c.kernel.ensures) c.hear.ensures.heard
