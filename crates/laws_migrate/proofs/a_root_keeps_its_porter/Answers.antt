use Rattle.laws_migrate.proofs.Porters.{root_keeps_porter}
use Rattle.laws_migrate.proofs.a_root_keeps_its_porter.Goals as goal

pub returns : goal.returns
returns c = λ w e moves native. root_keeps_porter w e moves native
