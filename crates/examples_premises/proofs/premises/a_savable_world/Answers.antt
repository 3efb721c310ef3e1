use Rattle.std.proofs.Common.{◌≤◌, [], ◌∷◌, Option, Some, None, refl, arith}
use Rattle.fk_model.specs.declared.limits.TheConstants.{MOST_STOPS}
use Rattle.fk_model.specs.Places.{Ptr}
use Rattle.fk_model.specs.Places.Ptr.{At}
use Rattle.fk_model.specs.Objects.Body.{Space}
use Rattle.examples_premises.specs.Premises.{premises, nesters_porter, objects_of, pages_of, full_of_all}
use Rattle.examples_premises.proofs.Listed.{All, IsShapedAt, savable}
use Rattle.examples_premises.proofs.premises.a_savable_world.Goals as goal

shapes : (holder : Option Ptr) → All IsShapedAt (([], Space 0 None) ∷ objects_of holder)
unfolding premises
shapes holder = let few : 0 ≤ MOST_STOPS = omega arith in assumption few

pub returns-clause-free : goal.returns-clause-free
unfolding premises
returns-clause-free c = savable (full_of_all None) (([], Space 0 None) ∷ objects_of None) pages_of (λ x. refl) (λ s g. refl) refl refl (shapes None)

pub returns-clause-held : goal.returns-clause-held
unfolding premises
returns-clause-held c =
    savable (full_of_all (Some (At nesters_porter)))
    (([], Space 0 None) ∷ objects_of (Some (At nesters_porter))) pages_of (λ x. refl) (λ s g. refl) refl refl (shapes (Some (At nesters_porter)))
