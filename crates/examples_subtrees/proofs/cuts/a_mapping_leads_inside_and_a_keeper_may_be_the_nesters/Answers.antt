-- Few slots are taken, and the walks look at these.
use Rattle.std.proofs.Common.{ℕ, List, [], ◌∷◌, refl}
use Rattle.fk_model.specs.Places.{Ptr}
use Rattle.fk_model.specs.Places.Ptr.{Null, Dead, At}
use Rattle.examples_subtrees.specs.Cuts.{cut_worlds, in_subtree, beside, memory_of}
use Rattle.examples_moves.proofs.FewSlots.{HasFew, open_among, walk, open-few, world-few}
use Rattle.examples_subtrees.proofs.cuts.a_mapping_leads_inside_and_a_keeper_may_be_the_nesters.Goals as goal
use Rattle.examples_moves.specs.Worked.{root_port}

abbrev few : List ℕ
few = 1 ∷ 2 ∷ 3 ∷ 5 ∷ 6 ∷ 7 ∷ 9 ∷ []

memory_of-few : (region keeper : Ptr) → HasFew few (memory_of region keeper)
unfolding memory_of
memory_of-few region keeper = world-few few _ _ refl

pub returns-clause-kept_out : goal.returns-clause-kept_out
unfolding cut_worlds open_among walk
returns-clause-kept_out c = open-few few refl _ (memory_of-few (At (in_subtree 5)) (At root_port)) [] 1 _ refl

pub returns-clause-cleared : goal.returns-clause-cleared
unfolding cut_worlds open_among walk
returns-clause-cleared c = open-few few refl _ (memory_of-few Null Dead) [] 1 _ refl

pub returns-clause-region_out : goal.returns-clause-region_out
unfolding cut_worlds open_among walk
returns-clause-region_out c = open-few few refl _ (memory_of-few (At (6 ∷ [])) (At root_port)) [] 1 _ refl

pub returns-clause-port_out : goal.returns-clause-port_out
unfolding cut_worlds open_among walk
returns-clause-port_out c = open-few few refl _ (memory_of-few (At root_port) (At root_port)) [] 1 _ refl

pub returns-clause-kept_far : goal.returns-clause-kept_far
unfolding cut_worlds open_among walk
returns-clause-kept_far c = open-few few refl _ (memory_of-few (At (in_subtree 5)) (At (beside 7))) [] 1 _ refl
