use Rattle.laws_house.proofs.House.{run_stays_uncut}
use Rattle.laws_house.proofs.a_run_stays_uncut.Goals as goal

pub returns : goal.returns
returns g c = run_stays_uncut
