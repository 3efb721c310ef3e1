use Rattle.laws_restore.proofs.InSites.Restored.{restores_built}
use Rattle.laws_restore.proofs.sites.a_restore_builds_its_orders.Goals as goal

pub returns : goal.returns
returns c = restores_built
