use Rattle.std.proofs.Common.{[], ◌∷◌, refl}
use Rattle.examples_premises.specs.Premises.{premises}
use Rattle.examples_premises.proofs.premises.what_isnt_plain.Goals as goal

pub returns-clause-far : goal.returns-clause-far
unfolding premises
returns-clause-far c = λ plain. let h = plain.near (13 ∷ []) in cc

pub returns-clause-nester : goal.returns-clause-nester
unfolding premises
returns-clause-nester c = λ plain. let h = plain.near (13 ∷ []) in cc

pub returns-clause-porter : goal.returns-clause-porter
unfolding premises
returns-clause-porter c = λ plain. let h = plain.no_porter (255 ∷ []) in cc

pub returns-clause-served : goal.returns-clause-served
unfolding premises
returns-clause-served c = λ plain. let h = plain.unserved (13 ∷ []) in cc

pub returns-clause-talk : goal.returns-clause-talk
unfolding premises
returns-clause-talk c = λ plain. let h = plain.served_inside (0 ∷ []) refl in cc

pub returns-clause-fault : goal.returns-clause-fault
unfolding premises
returns-clause-fault c = λ plain. let h = plain.served_inside (0 ∷ []) refl in cc

pub returns-clause-no_space : goal.returns-clause-no_space
unfolding premises
returns-clause-no_space c = λ plain. let h = plain.root in cc

pub returns-clause-nothing : goal.returns-clause-nothing
unfolding premises
returns-clause-nothing c = λ plain. let h = plain.root in cc
