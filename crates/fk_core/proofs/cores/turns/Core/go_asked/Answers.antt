use Rattle.std.proofs.Common.{◌∙◌, sym}
use Rattle.fk_core.proofs.cores.turns.Core.go_asked.Goals as goal

pub go_by-requires-clause-asked : goal.go_by-requires-clause-asked
go_by-requires-clause-asked g c = sym c.ask-asked.ensures.asked ∙ c.in-Some.is

pub go_by-requires-clause-words : goal.go_by-requires-clause-words
go_by-requires-clause-words g c = rw c.in-Some.is at c.ask-asked.ensures.words
