use Rattle.laws_restore.proofs.InSites.Restored.{never_lost}
use Rattle.laws_restore.proofs.sites.a_restore_is_never_lost.Goals as goal

pub returns : goal.returns
returns c = never_lost
