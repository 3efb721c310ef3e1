use Rattle.std.proofs.Common.{None, refl, sym, subst}
use Rattle.fk_model.specs.declared.moves.Move.{Move}
use Rattle.fk_model.specs.World.{World}
use Rattle.fk_host.proofs.Bursts.{leads, turns}
use Rattle.fk_served.specs.Kernels.{world_of as world}
use Rattle.laws_turns.specs.Quiet.{LeadRunning}
use Rattle.laws_turns.proofs.Running.{bursts_run_lem}
use Rattle.fk_host.proofs.host.Host.run_on.Goals as goal

pub returns-clause-turns : goal.returns-clause-turns
returns-clause-turns g c =
    let self = c.args.self.now in
    let move : Move = record { who = c.args.who; pick = None } in
    let k = self.kernel in
    let ran = c.run_on in
    let led = leads move ran.result k ran.new.self ran.ensures.none (λ some. let b = ran.ensures.ran some in
    subst (λ (v : World). LeadRunning move ran.result (world k) v) (sym b.becomes)
    (bursts_run_lem move (world k) ran.result b.from b.to refl b.paged b.began b.makes b.pages)) in
    (turns self.services.list move refl ran.result (world k) (world ran.new.self) c.names.ensures.valid c.names.ensures.few led).0
