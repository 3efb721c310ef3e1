use Rattle.laws_restore.proofs.InSites.Owed.{orders_are_owed}
use Rattle.laws_restore.proofs.sites.orders_are_owed.Goals as goal

pub returns : goal.returns
returns c = orders_are_owed
