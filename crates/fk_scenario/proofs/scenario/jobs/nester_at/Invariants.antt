use Rattle.std.proofs.Common.{◌≡◌, drop}
use Rattle.fk_scenario.specs.Scenario.Jobs as definitions
use Rattle.fk_scenario.proofs.scenario.jobs.nester_at.Given as goal

abbrev pub invariant-loop-space : goal.invariant-loop-space
invariant-loop-space l = definitions.nester_from l.birth (drop l.space-index l.spaces) l.path
    ≡ definitions.nester_from (definitions.first_number l.spaces) l.spaces l.path
