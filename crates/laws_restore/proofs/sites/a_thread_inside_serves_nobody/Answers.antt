use Rattle.laws_restore.proofs.InSites.Fit.{serves_nobody}
use Rattle.laws_restore.proofs.sites.a_thread_inside_serves_nobody.Goals as goal

pub returns : goal.returns
returns c = serves_nobody
