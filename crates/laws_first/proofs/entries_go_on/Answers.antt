use Rattle.laws_first.proofs.Entries.{entries_go_on}
use Rattle.laws_first.proofs.entries_go_on.Goals as goal

pub returns : goal.returns
returns g c = entries_go_on
