use Rattle.laws_migrate.proofs.Readies.{migration_goes_on}
use Rattle.laws_migrate.proofs.a_migration_goes_on.Goals as goal

pub returns : goal.returns
returns g c = λ codec slot w v es h its native calm over. migration_goes_on codec slot w v es h its native calm over
