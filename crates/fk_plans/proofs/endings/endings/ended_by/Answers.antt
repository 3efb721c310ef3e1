use Rattle.fk_plans.proofs.InEndings.Verdicts.{verdict-ending}
use Rattle.fk_plans.proofs.endings.endings.ended_by.Goals as goal

pub returns-else-is_none-clause-ending : goal.returns-else-is_none-clause-ending
returns-else-is_none-clause-ending c words =
    verdict-ending c.args.store.now c.args.caller words c.requires.valid c.names.ensures.few c.args.verdict.now _ c.requires.fits c.in-Some.ensures.port

pub returns-in-None-clause-ending : goal.returns-in-None-clause-ending
returns-in-None-clause-ending c words =
    verdict-ending c.args.store.now c.args.caller words c.requires.valid c.names.ensures.few c.args.verdict.now _ c.requires.fits c.in-None.ensures.port
