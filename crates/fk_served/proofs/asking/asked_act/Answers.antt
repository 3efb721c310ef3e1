use Rattle.std.proofs.Common.{◌∙◌, sym}
use Rattle.fk_kernel.specs.Kernels.{world_of as world}
use Rattle.fk_served.proofs.Idle.{no-act, if-none}
use Rattle.fk_served.proofs.asking.asked_act.Goals as goal

pub returns-in_default-clause-none : goal.returns-in_default-clause-none
returns-in_default-clause-none g c =
    if-none c.unpicked.result _ _
    (no-act c.args.services.now.list (world c.args.kernel.now) c.args.port c.in_ok-ask.ask
    (sym c.asked_by.ensures.asked ∙ c.in_ok-ask.was) c.in_default.not-Accept)
    c.unpicked.ensures.none
