use Rattle.laws_restore.proofs.InSites.Plainly.{releases_plain}
use Rattle.laws_restore.proofs.sites.a_released_subtree_is_plain.Goals as goal

pub returns : goal.returns
returns c = releases_plain
