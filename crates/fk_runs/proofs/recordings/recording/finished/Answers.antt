use Rattle.fk_first.specs.Cores.{run_core}
use Rattle.fk_runs.proofs.InRuns.Starting.{may_begin}
use Rattle.fk_runs.proofs.recordings.recording.finished.Goals as goal

pub of-requires : goal.of-requires
of-requires g c =
    let core = c.args.core in
    record { sound = may_begin core.jobs.jobs core.budget (run_core core) c.requires.come c.requires.first }
