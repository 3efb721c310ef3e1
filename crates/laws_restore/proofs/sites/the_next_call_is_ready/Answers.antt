use Rattle.laws_restore.proofs.InSites.Ready.{next_is_ready}
use Rattle.laws_restore.proofs.sites.the_next_call_is_ready.Goals as goal

pub returns : goal.returns
returns c = next_is_ready
