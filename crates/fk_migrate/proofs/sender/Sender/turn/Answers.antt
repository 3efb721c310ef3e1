use Rattle.std.proofs.Common.{ap, ◌∙◌}
use Rattle.fk_served.specs.Kernels.{Kept}
use Rattle.fk_served.specs.Kernels.{world_of as world}
use Rattle.fk_sides.specs.Nears.{saves_of}
use Rattle.fk_migrate.specs.Turns.{is_porters}
use Rattle.fk_migrate.proofs.Nearing.{near_turned}
use Rattle.fk_migrate.proofs.sender.Sender.turn.Goals as goal

pub returns-clause-lands : goal.returns-clause-lands
returns-clause-lands g c =
    let self = c.args.self.now in
    near_turned self.near.slot self.host.kernel c.turn.new.self.kernel self.host.services.list c.turn.new.self.services.list (saves_of self.near.saves)
    (saves_of c.hear.new.near.saves) c.args.m.now c.in_ok-said.said c.ask.result c.in-Some.ask c.is_porters-is_own.result c.reserve.new.self.slot
    (saves_of c.reserve.new.self.saves) c.ask.ensures c.in-Some.is c.in_ok-said.ensures.turn
    (c.is_porters-is_own.ensures ∙ ap (λ (k : Kept). is_porters (world k) c.args.m.now) c.kernel.ensures)
    c.reserve.ensures.slot c.reserve.ensures.same c.hear.ensures.heard
