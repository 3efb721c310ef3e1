use Rattle.laws_restore.proofs.InSites.Near.{new_space_is_unled}
use Rattle.laws_restore.proofs.sites.nobody_leads_into_a_new_space.Goals as goal

pub returns : goal.returns
returns c = new_space_is_unled
