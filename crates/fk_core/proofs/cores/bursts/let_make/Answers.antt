use Rattle.std.proofs.Common.{refl}
use Rattle.fk_core.proofs.cores.bursts.let_make.Goals as goal

pub returns-clause-answer : goal.returns-clause-answer
returns-clause-answer g c = record { shown = _; shows = refl; left = _; met = c.f.ensures; leaves = refl }

pub returns-clause-makes : goal.returns-clause-makes
returns-clause-makes g c = c.requires.makes _ _ _ (record { shown = _; shows = refl; left = _; met = c.f.ensures; leaves = refl })
