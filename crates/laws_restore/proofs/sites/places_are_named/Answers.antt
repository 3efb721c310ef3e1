use Rattle.laws_restore.proofs.InSites.Standing.{place-row}
use Rattle.laws_restore.proofs.sites.places_are_named.Goals as goal

pub returns : goal.returns
returns c = place-row
