use Rattle.std.proofs.Common.{[], ◌∷◌, refl, arith}
use Rattle.fk_model.specs.Valid.{kind_there}
use Rattle.examples_moves.specs.Worked.{numbered}
use Rattle.examples_premises.specs.Premises.{premises, within, pages_of, with_one_page}
use Rattle.examples_premises.proofs.Listed.{paged_list}
use Rattle.examples_premises.proofs.premises.a_page_has_its_place.Goals as goal

pub returns-clause-last : goal.returns-clause-last
unfolding premises kind_there
returns-clause-last c = paged_list (with_one_page (1 ∷ []) 254) (numbered (1 ∷ []) 0 254 ∷ pages_of) (λ s g. refl) refl

pub returns-clause-past : goal.returns-clause-past
unfolding premises
returns-clause-past c = λ paged. let few = (paged (1 ∷ []) 256 refl).number in absurd (omega (arith, few))

pub returns-clause-in_nothing : goal.returns-clause-in_nothing
unfolding premises kind_there
returns-clause-in_nothing c = λ paged. let there = (paged (within 9) 0 refl).space in cc

pub returns-clause-in_a_mutex : goal.returns-clause-in_a_mutex
unfolding premises kind_there
returns-clause-in_a_mutex c = λ paged. let there = (paged (within 12) 0 refl).space in cc
