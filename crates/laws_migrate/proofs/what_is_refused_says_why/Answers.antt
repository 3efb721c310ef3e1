use Rattle.laws_migrate.proofs.Migrates.{refused_says_why}
use Rattle.laws_migrate.proofs.what_is_refused_says_why.Goals as goal

pub returns : goal.returns
returns g c = λ codec slot w v es h m image why its. refused_says_why codec slot its.may.low its.good w v es h m image why its
