use Rattle.fk_runs.proofs.InRuns.Transparencies.{reports_are_transparent}
use Rattle.fk_runs.proofs.runs.transparency.reports_are_transparent.Goals as goal

pub returns : goal.returns
returns c = reports_are_transparent
