use Rattle.std.proofs.Common.{◌≡◌, drop}
use Rattle.fk_report.specs.Jobs as definitions
use Rattle.fk_report.proofs.jobs.first_refused.Given as goal

abbrev pub invariant-loop-end : goal.invariant-loop-end
invariant-loop-end l = definitions.refused_from l.place (drop l.end-index l.ends) ≡ definitions.refused_from 0 l.ends
