use Rattle.std.proofs.Common.{List, [], ◌∷◌, Some, None, refl, arith}
use Rattle.fk_model.specs.Places.{Path}
use Rattle.fk_model.specs.Places.Ptr.{At}
use Rattle.fk_model.specs.Objects.{Body}
use Rattle.fk_model.specs.Objects.Body.{Space, Reference}
use Rattle.fk_model.specs.Holds.{decider}
use Rattle.examples_premises.specs.Premises.{premises, nesters_porter, within, objects_of, full_of_all, held_with}
use Rattle.examples_premises.proofs.HeldBy.{holding}
use Rattle.examples_premises.proofs.premises.a_porter_that_holds.Goals as goal

abbrev listed_with : Body → List (Path × Body)
listed_with b = ([], Space 0 None) ∷ (240 ∷ [], b) ∷ objects_of (Some (At nesters_porter))

pub returns-clause-inside : goal.returns-clause-inside
unfolding premises decider
returns-clause-inside c = holding (held_with (Reference (At (within 5)))) [] 1 []
    (listed_with (Reference (At (within 5)))) (λ x. refl) refl (omega arith) refl refl refl

pub returns-clause-led_to : goal.returns-clause-led_to
unfolding premises decider
returns-clause-led_to c = holding (held_with (Reference (At (9 ∷ [])))) [] 1 (0 ∷ [])
    (listed_with (Reference (At (9 ∷ [])))) (λ x. refl) refl (omega arith) refl refl refl

pub returns-clause-none : goal.returns-clause-none
unfolding premises decider
returns-clause-none c = holding (full_of_all (Some (At nesters_porter))) [] 1 []
    (([], Space 0 None) ∷ objects_of (Some (At nesters_porter))) (λ x. refl) refl (omega arith) refl refl refl

pub returns-clause-mutex : goal.returns-clause-mutex
unfolding premises
returns-clause-mutex c = λ held. let h = held.scratch 240 refl in cc

pub returns-clause-nobody : goal.returns-clause-nobody
unfolding premises
returns-clause-nobody c = λ held. let h = held.holder in cc

pub returns-clause-another : goal.returns-clause-another
unfolding premises
returns-clause-another c = λ held. let h = held.holder in cc

pub returns-clause-deeper : goal.returns-clause-deeper
unfolding premises decider
returns-clause-deeper c = λ held. let h = held.above in cc
