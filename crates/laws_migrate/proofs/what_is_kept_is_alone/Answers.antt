use Rattle.laws_migrate.proofs.Migrates.{kept_is_alone}
use Rattle.laws_migrate.proofs.what_is_kept_is_alone.Goals as goal

pub returns : goal.returns
returns g c = λ codec slot w v es more h m copy its. kept_is_alone codec slot its.may.low its.good w v es more h m copy its
