use Rattle.laws_restore.proofs.InSites.Looking.{others_keep_looks}
use Rattle.laws_restore.proofs.sites.others_keep_what_a_pin_tells.Goals as goal

pub returns : goal.returns
returns c = others_keep_looks
