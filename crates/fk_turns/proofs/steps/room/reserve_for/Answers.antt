use Rattle.std.proofs.Common.{sym, ◌∙◌}
use Rattle.fk_turns.proofs.InSteps.Giving.{lacks, makes_lacks}
use Rattle.fk_turns.proofs.steps.room.reserve_for.Goals as goal

pub returns-clause-lacking : goal.returns-clause-lacking
returns-clause-lacking c =
    lacks c.reserve_where.result _ _ (λ is. makes_lacks c.args.store.now c.args.m.now c.args.ask.now (sym c.may_want.ensures ∙ is))
    c.reserve_where.ensures.lacking
