use Rattle.fk_migrate.proofs.Turning.{porters_so}
use Rattle.fk_migrate.proofs.hearing.is_porters.Goals as goal

pub returns : goal.returns
returns c = porters_so _ _ c.args.m.now _ c.names.ensures.born c.is_porter.ensures
