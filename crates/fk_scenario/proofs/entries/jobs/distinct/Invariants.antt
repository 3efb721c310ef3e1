use Rattle.std.proofs.Common.{◌≡◌, [], drop}
use Rattle.fk_scenario.specs.Entries.Jobs as definitions
use Rattle.fk_scenario.proofs.entries.jobs.distinct.Given as goal

abbrev pub invariant-loop-pair : goal.invariant-loop-pair
invariant-loop-pair l = definitions.distinct_from l.bind (drop l.pair-index l.pairs) ≡ definitions.distinct_from [] l.pairs
