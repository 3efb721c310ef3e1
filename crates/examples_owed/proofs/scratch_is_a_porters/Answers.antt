use Rattle.std.proofs.Common.{[], ◌∷◌, refl}
use Rattle.examples_premises.specs.Premises.{premises, within}
use Rattle.examples_owed.specs.Owed.{unheld, scratched, scratched_unheld, scratched_deeper}
use Rattle.examples_owed.proofs.Worlds.{savable-scratched}
use Rattle.examples_owed.proofs.scratch_is_a_porters.Goals as goal

pub returns-clause-held : goal.returns-clause-held
returns-clause-held c = savable-scratched

pub returns-clause-unheld : goal.returns-clause-unheld
unfolding premises scratched_unheld
returns-clause-unheld c = λ savable. let h = savable.scratch_kept 240 (1 ∷ []) refl refl in cc

pub returns-clause-deeper : goal.returns-clause-deeper
unfolding premises scratched_deeper
returns-clause-deeper c = λ savable. let h = savable.scratch_kept 240 (within 6) refl refl in cc

pub returns-clause-makes_owes : goal.returns-clause-makes_owes
unfolding premises unheld
returns-clause-makes_owes c = λ owes. let h = owes (1 ∷ []) refl in cc

pub returns-clause-makes : goal.returns-clause-makes
unfolding premises unheld
returns-clause-makes c = λ savable. let h = savable.scratch_kept 240 (1 ∷ []) refl refl in cc

pub returns-clause-releases_owes : goal.returns-clause-releases_owes
unfolding premises scratched
returns-clause-releases_owes c = λ owes. let h = owes [] refl 240 refl refl in cc

pub returns-clause-releases : goal.returns-clause-releases
unfolding premises scratched
returns-clause-releases c = λ savable. let h = savable.scratch_kept 240 (1 ∷ []) refl refl in cc
