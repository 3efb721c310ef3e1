use Rattle.laws_restore.proofs.InSites.Released.{releases}
use Rattle.laws_restore.proofs.sites.a_restore_is_released.Goals as goal

pub returns : goal.returns
returns c = releases
