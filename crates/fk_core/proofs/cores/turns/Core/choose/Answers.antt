use Rattle.fk_core.specs.Rounds.Kernels.{world_of as world}
use Rattle.fk_core.specs.Cores.Cores.{run_core}
use Rattle.fk_core.proofs.InCores.Trying.{choice_of}
use Rattle.fk_core.proofs.InRounds.Due.{chosen_first}
use Rattle.fk_core.proofs.cores.turns.Core.choose.Goals as goal

pub returns-in-Some-clause-choice : goal.returns-in-Some-clause-choice
returns-in-Some-clause-choice g c =
    (c.in-Some.ensures.ready.0, c.in-Some.ensures.ready.1, λ even few due porter ready. c.in-Some.ensures.porter)

pub returns-in-None-clause-choice : goal.returns-in-None-clause-choice
returns-in-None-clause-choice g c =
    let self = c.args.self.now in
    choice_of c.choose_other.result self.jobs self.budget (run_core self) c.choose_other.ensures.ready c.choose_other.ensures.none
    (chosen_first self.jobs (world self.kernel) self.services.list self.events self.budget c.choose_other.result
    c.in-None.ensures.none c.choose_other.ensures.ready)
