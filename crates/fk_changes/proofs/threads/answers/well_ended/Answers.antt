use Rattle.fk_changes.proofs.InThreads.FinishLaws.{end_not}
use Rattle.fk_changes.proofs.threads.answers.well_ended.Goals as goal

pub returns-clause-edit : goal.returns-clause-edit
returns-clause-edit c p = end_not p c.args.thread _ c.in_default.not-Calling
