use Rattle.laws_migrate.proofs.Fits.{calls_are_fit}
use Rattle.laws_migrate.proofs.calls_are_fit.Goals as goal

pub returns : goal.returns
returns g c = λ codec slot w v es good may ready. calls_are_fit _ codec slot w v es good may ready
