-- Few slots are taken, and the walks look at these.
use Rattle.std.proofs.Common.{ℕ, List, [], ◌∷◌, Option, None, Some, refl}
use Rattle.fk_model.specs.Places.{Ptr}
use Rattle.fk_model.specs.Places.Ptr.{At}
use Rattle.examples_subtrees.specs.Cuts.{cut_worlds, in_subtree, held_twice}
use Rattle.examples_moves.proofs.FewSlots.{HasFew, open_among, walk, open-few, world-few}
use Rattle.examples_subtrees.proofs.cuts.the_holder_of_the_root_is_left_out.Goals as goal
use Rattle.examples_moves.specs.Worked.{root_port}

abbrev few : List ℕ
few = 0 ∷ 1 ∷ 3 ∷ 5 ∷ 9 ∷ []

held_twice-few : (outer within : Option Ptr) → HasFew few (held_twice outer within)
unfolding held_twice
held_twice-few outer within = world-few few _ _ refl

pub returns-clause-closed : goal.returns-clause-closed
unfolding cut_worlds open_among walk
returns-clause-closed c = open-few few refl _ (held_twice-few (Some (At (0 ∷ []))) None) [] 1 _ refl

pub returns-clause-within : goal.returns-clause-within
unfolding cut_worlds open_among walk
returns-clause-within c = open-few few refl _ (held_twice-few None (Some (At (in_subtree 3)))) [] 1 _ refl

pub returns-clause-outside : goal.returns-clause-outside
unfolding cut_worlds open_among walk
returns-clause-outside c = open-few few refl _ (held_twice-few None (Some (At (0 ∷ [])))) [] 1 _ refl

pub returns-clause-both : goal.returns-clause-both
unfolding cut_worlds open_among walk
returns-clause-both c = open-few few refl _ (held_twice-few (Some (At (0 ∷ []))) (Some (At (0 ∷ [])))) [] 1 _ refl

pub returns-clause-at_port : goal.returns-clause-at_port
unfolding cut_worlds open_among walk
returns-clause-at_port c = open-few few refl _ (held_twice-few None (Some (At root_port))) [] 1 _ refl
