use Rattle.laws_restore.proofs.InSites.Looking.{takes_keep_looks}
use Rattle.laws_restore.proofs.sites.scratch_keeps_what_a_pin_tells.Goals as goal

pub returns : goal.returns
returns c = takes_keep_looks
