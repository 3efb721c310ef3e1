use Rattle.laws_restore.proofs.InSites.Ended.{built_is_cut}
use Rattle.laws_restore.proofs.sites.what_is_built_is_the_cut.Goals as goal

pub returns : goal.returns
returns c = built_is_cut
