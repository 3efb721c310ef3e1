use Rattle.std.proofs.Common.{sym, true, ◌∙◌}
use Rattle.fk_turns.proofs.InSteps.Giving.{lacks, stage_lacks}
use Rattle.fk_turns.proofs.steps.room.reserve_for_stage.Goals as goal

pub returns-clause-lacking : goal.returns-clause-lacking
returns-clause-lacking c =
    lacks c.reserve_where.result _ _ (λ is. stage_lacks true c.args.stage.now (sym c.makes_object.ensures ∙ is)) c.reserve_where.ensures.lacking
