use Rattle.laws_restore.proofs.InSites.Looking.{pins_tell}
use Rattle.laws_restore.proofs.sites.a_pin_tells.Goals as goal

pub returns : goal.returns
returns c = pins_tell
