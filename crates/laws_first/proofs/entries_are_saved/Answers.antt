use Rattle.laws_first.proofs.Entries.{entries_are_saved}
use Rattle.laws_first.proofs.entries_are_saved.Goals as goal

pub returns : goal.returns
returns g c = entries_are_saved
