use Rattle.laws_restore.proofs.InSites.Looking.{checks_tell}
use Rattle.laws_restore.proofs.sites.a_look_tells_what_the_pin_tells.Goals as goal

pub returns : goal.returns
returns c = checks_tell
