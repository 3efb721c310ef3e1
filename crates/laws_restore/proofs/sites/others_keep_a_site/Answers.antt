use Rattle.laws_restore.proofs.InSites.Others.{others}
use Rattle.laws_restore.proofs.sites.others_keep_a_site.Goals as goal

pub returns : goal.returns
returns c = others
