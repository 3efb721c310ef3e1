use Rattle.laws_migrate.proofs.Places.{calls_have_places}
use Rattle.laws_migrate.proofs.calls_have_places.Goals as goal

pub returns : goal.returns
returns g c = λ codec slot p es w. calls_have_places codec slot p es w
