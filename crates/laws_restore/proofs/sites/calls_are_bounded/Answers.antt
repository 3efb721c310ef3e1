use Rattle.laws_restore.proofs.InSites.Restored.{calls_bounded}
use Rattle.laws_restore.proofs.sites.calls_are_bounded.Goals as goal

pub returns : goal.returns
returns c = calls_bounded
