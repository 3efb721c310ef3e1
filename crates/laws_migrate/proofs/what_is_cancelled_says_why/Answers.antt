use Rattle.laws_migrate.proofs.Migrates.{cancelled_says_why}
use Rattle.laws_migrate.proofs.what_is_cancelled_says_why.Goals as goal

pub returns : goal.returns
returns g c = λ codec slot w v es h why its. cancelled_says_why codec slot its.may.low its.good w v es h why its
