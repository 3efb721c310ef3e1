use Rattle.std.proofs.Common.{◌∙◌, ap}
use Rattle.fk_core.specs.Rounds.Served.{asked}
use Rattle.fk_core.specs.Cores.Cores.{RunCore}
use Rattle.fk_core.proofs.cores.turns.Core.ask.Goals as goal

pub returns-clause-asked : goal.returns-clause-asked
returns-clause-asked g c = c.ask.ensures.asked ∙ ap (λ (core : RunCore). asked core.servers core.world c.args.who) c.moment.ensures.seen

pub returns-clause-words : goal.returns-clause-words
returns-clause-words g c = c.ask.ensures.words
