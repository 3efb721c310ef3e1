use Rattle.laws_restore.proofs.InSites.Near.{near_calls_keep_unled}
use Rattle.laws_restore.proofs.sites.own_calls_lead_nobody_in.Goals as goal

pub returns : goal.returns
returns c = near_calls_keep_unled
