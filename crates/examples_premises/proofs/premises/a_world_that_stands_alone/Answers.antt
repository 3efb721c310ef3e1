use Rattle.std.proofs.Common.{[], ◌∷◌, Some, None, refl}
use Rattle.fk_model.specs.Places.Ptr.{At}
use Rattle.fk_model.specs.Objects.Body.{Space}
use Rattle.examples_premises.specs.Premises.{premises, nesters_porter, objects_of, full_of_all}
use Rattle.examples_premises.proofs.Apart.{uncut, no_window, users_alone}
use Rattle.examples_premises.proofs.Listed.{plain}
use Rattle.examples_premises.proofs.premises.a_world_that_stands_alone.Goals as goal

pub returns-clause-uncut : goal.returns-clause-uncut
unfolding premises
returns-clause-uncut c = uncut (full_of_all None) (([], Space 0 None) ∷ objects_of None) (λ x. refl) refl

pub returns-clause-uncut_held : goal.returns-clause-uncut_held
unfolding premises
returns-clause-uncut_held c =
    uncut (full_of_all (Some (At nesters_porter))) (([], Space 0 None) ∷ objects_of (Some (At nesters_porter))) (λ x. refl) refl

pub returns-clause-users : goal.returns-clause-users
unfolding premises
returns-clause-users c =
    users_alone (full_of_all None) [] 1 (plain (full_of_all None) (([], Space 0 None) ∷ objects_of None) (λ x. refl) [] 1 refl 1 None refl)

pub returns-clause-no_window : goal.returns-clause-no_window
unfolding premises
returns-clause-no_window c = no_window (full_of_all None) (([], Space 0 None) ∷ objects_of None) (λ x. refl) [] 1 refl

pub returns-clause-no_window_held : goal.returns-clause-no_window_held
unfolding premises
returns-clause-no_window_held c =
    no_window (full_of_all (Some (At nesters_porter))) (([], Space 0 None) ∷ objects_of (Some (At nesters_porter))) (λ x. refl) [] 1 refl

pub returns-clause-far : goal.returns-clause-far
unfolding premises
returns-clause-far c = λ alone. let h = alone (13 ∷ 1 ∷ []) in cc

pub returns-clause-out : goal.returns-clause-out
unfolding premises
returns-clause-out c = λ alone. let h = alone (13 ∷ 1 ∷ []) in cc

pub returns-clause-window : goal.returns-clause-window
unfolding premises
returns-clause-window c = λ none. let h = none (0 ∷ []) refl in cc
