use Rattle.laws_migrate.proofs.Migrates.{never_both_free}
use Rattle.laws_migrate.proofs.never_both_are_free.Goals as goal

pub returns : goal.returns
returns g c = λ codec slot w v es h m number copy its. never_both_free codec slot its.may.low its.good w v es h m number copy its
