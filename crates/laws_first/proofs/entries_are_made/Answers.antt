use Rattle.laws_first.proofs.Entries.{entries_are_made}
use Rattle.laws_first.proofs.entries_are_made.Goals as goal

pub returns : goal.returns
returns g c = entries_are_made
