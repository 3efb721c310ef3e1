use Rattle.std.proofs.Common.{◌≡◌, [], drop}
use Rattle.fk_scenario.specs.Entries.Jobs as definitions
use Rattle.fk_scenario.proofs.entries.jobs.pairs_of.Given as goal

abbrev pub invariant-loop-list : goal.invariant-loop-list
invariant-loop-list l = definitions.pairs_from l.pairs (drop l.list-index l.lists) ≡ definitions.pairs_from [] l.lists
