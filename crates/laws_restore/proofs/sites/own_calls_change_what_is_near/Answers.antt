use Rattle.laws_restore.proofs.InSites.Near.{own_calls_are_near}
use Rattle.laws_restore.proofs.sites.own_calls_change_what_is_near.Goals as goal

pub returns : goal.returns
returns c = own_calls_are_near
