use Rattle.laws_restore.proofs.InSites.Begun.{begins}
use Rattle.laws_restore.proofs.sites.a_restore_begins.Goals as goal

pub returns : goal.returns
returns c = begins
