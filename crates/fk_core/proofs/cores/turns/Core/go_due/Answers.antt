use Rattle.std.proofs.Common.{◌≡◌, ◌∙◌, None, sym, true}
use Rattle.fk_core.specs.Rounds.Kernels.{world_of as world}
use Rattle.fk_core.specs.Cores.Cores.{run_core}
use Rattle.fk_core.specs.Cores.Memory.{may_lack}
use Rattle.fk_core.proofs.InRounds.Asking.{none_ready}
use Rattle.fk_core.proofs.InCores.Cutting.{of-unready}
use Rattle.std.proofs.lemmas.Result.{err_from_is_err_and}
use Rattle.fk_core.proofs.cores.turns.Core.go_due.Goals as goal

pub returns-else-branch-clause-none : goal.returns-else-branch-clause-none
returns-else-branch-clause-none g c m porter ready =
    let self = c.args.self.now in
    none_ready self.jobs (world self.kernel) self.services.list self.events c.in-Some.who (sym c.porter.ensures ∙ c.in-Some.is)
    (of-unready c.in_ok-go_timely_job.field-0 _ (may_lack self.jobs.jobs (run_core self) (record { who = c.in-Some.who; pick = None }) ≡ true) _ (run_core self)
    (record { who = c.in-Some.who; pick = None })
    (run_core c.go_timely_job.new.self) c.if-branch.false c.in_ok-go_timely_job.ensures.tried) m porter ready

pub returns-in_err-go_timely_job-clause-made : goal.returns-in_err-go_timely_job-clause-made
returns-in_err-go_timely_job-clause-made g c =
    let tried = c.in_err-go_timely_job.ensures.tried in
    let p = err_from_is_err_and c.from_residual.result c.from_residual.ensures.1 in rw p.1 ((record { who = c.in-Some.who; pick = None }, c.requires.few, tried.0, tried.1), tried.2)
