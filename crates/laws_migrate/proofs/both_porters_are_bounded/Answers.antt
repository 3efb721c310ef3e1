use Rattle.laws_migrate.proofs.FarBounded.{both_are_bounded}
use Rattle.laws_migrate.proofs.both_porters_are_bounded.Goals as goal

pub returns : goal.returns
returns g c = λ codec slot w v es h d its deep. both_are_bounded codec slot w v es h d its deep
