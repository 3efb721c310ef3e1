use Rattle.laws_migrate.proofs.FarBounded.{far_is_bounded}
use Rattle.laws_migrate.proofs.the_far_porter_is_bounded.Goals as goal

pub returns : goal.returns
returns g c = λ codec slot w v es h d its deep. far_is_bounded codec slot w v es h d its deep
