use Rattle.fk_core.proofs.InCores.Trying.{whenever}
use Rattle.fk_core.proofs.cores.turns.Core.go_first.Goals as goal

pub returns-clause-none : goal.returns-clause-none
returns-clause-none g c = whenever c.go_due.result _ _ (λ none come. none) c.go_due.ensures.none
