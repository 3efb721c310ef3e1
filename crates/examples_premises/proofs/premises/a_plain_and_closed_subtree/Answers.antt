-- Few slots are taken, and the walks look at these.
use Rattle.std.proofs.Common.{ℕ, List, [], ◌∷◌, Option, Some, None, refl}
use Rattle.fk_model.specs.Places.{Ptr}
use Rattle.fk_model.specs.Places.Ptr.{At}
use Rattle.fk_model.specs.Objects.Body.{Space}
use Rattle.examples_premises.specs.Premises.{premises, nesters_porter, objects_of, full_of_all}
use Rattle.examples_moves.proofs.FewSlots.{HasFew, open_among, walk, open-few, world-few}
use Rattle.examples_premises.proofs.Listed.{plain}
use Rattle.examples_premises.proofs.premises.a_plain_and_closed_subtree.Goals as goal

abbrev few : List ℕ
few = 0 ∷ 1 ∷ 2 ∷ 3 ∷ 4 ∷ 5 ∷ 6 ∷ 7 ∷ 8 ∷ 9 ∷ 10 ∷ 11 ∷ 12 ∷ 255 ∷ []

has_few : (holder : Option Ptr) → HasFew few (full_of_all holder)
unfolding full_of_all
has_few holder = world-few few _ _ refl

pub returns-clause-plain : goal.returns-clause-plain
unfolding premises
returns-clause-plain c = plain (full_of_all None) (([], Space 0 None) ∷ objects_of None) (λ x. refl) [] 1 refl 1 None refl

pub returns-clause-plain_held : goal.returns-clause-plain_held
unfolding premises
returns-clause-plain_held c =
    plain (full_of_all (Some (At nesters_porter)))
    (([], Space 0 None) ∷ objects_of (Some (At nesters_porter))) (λ x. refl) [] 1 refl 1 (Some (At nesters_porter)) refl

pub returns-clause-closed : goal.returns-clause-closed
unfolding premises open_among walk
returns-clause-closed c = open-few few refl _ (has_few None) [] 1 _ refl

pub returns-clause-closed_held : goal.returns-clause-closed_held
unfolding premises open_among walk
returns-clause-closed_held c = open-few few refl _ (has_few (Some (At nesters_porter))) [] 1 _ refl
