use Rattle.std.proofs.Common.{◌≡◌, [], drop}
use Rattle.fk_scenario.specs.Scenario.Jobs as definitions
use Rattle.fk_scenario.proofs.scenario.jobs.jobs_of.Given as goal

abbrev pub invariant-loop-entry : goal.invariant-loop-entry
invariant-loop-entry l = definitions.jobs_from l.spaces l.servers l.jobs (drop l.entry-index l.entries) ≡ definitions.jobs_from l.spaces l.servers [] l.entries
