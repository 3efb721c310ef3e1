use Rattle.laws_first.proofs.Entries.{entries_are_plain}
use Rattle.laws_first.proofs.entries_are_plain.Goals as goal

pub returns : goal.returns
returns g c = entries_are_plain
