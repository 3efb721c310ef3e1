use Rattle.std.proofs.Common.{[], ◌∷◌, refl}
use Rattle.examples_premises.specs.Premises.{premises, within}
use Rattle.examples_owed.proofs.Worlds.{whole-within, savable-within}
use Rattle.examples_owed.proofs.a_holder_that_lives_within.Goals as goal

pub returns-clause-whole : goal.returns-clause-whole
returns-clause-whole c = whole-within

pub returns-clause-savable : goal.returns-clause-savable
returns-clause-savable c = savable-within

pub returns-clause-proper : goal.returns-clause-proper
unfolding premises
returns-clause-proper c = record { fit = refl; words = refl }

pub returns-clause-owes : goal.returns-clause-owes
unfolding premises
returns-clause-owes c = λ owes. let h = owes.0 [] (within 5) refl refl in cc

pub returns-clause-after : goal.returns-clause-after
unfolding premises
returns-clause-after c = λ savable. let h = savable.holders_outside (1 ∷ []) (within 5) refl in cc
