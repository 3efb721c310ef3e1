use Rattle.laws_restore.proofs.InSites.Near.{others_keep_new_unled}
use Rattle.laws_restore.proofs.sites.others_come_not_to_lead_in.Goals as goal

pub returns : goal.returns
returns c = others_keep_new_unled
