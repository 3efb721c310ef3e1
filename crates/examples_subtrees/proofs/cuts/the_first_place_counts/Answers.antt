-- Few slots are taken, and the walks look at these.
use Rattle.std.proofs.Common.{ℕ, List, [], ◌∷◌, refl}
use Rattle.fk_model.specs.Places.{Ptr}
use Rattle.fk_model.specs.Places.Ptr.{Null, At}
use Rattle.examples_subtrees.specs.Cuts.{cut_worlds, subtree, in_subtree, beside, many}
use Rattle.examples_moves.proofs.FewSlots.{HasFew, open_among, walk, open-few, world-few}
use Rattle.examples_subtrees.proofs.cuts.the_first_place_counts.Goals as goal
use Rattle.examples_moves.specs.Worked.{root_port}

abbrev few : List ℕ
few = 0 ∷ 1 ∷ 2 ∷ 4 ∷ 6 ∷ 7 ∷ 9 ∷ []

many-few : (talk fault deep from_root : Ptr) → HasFew few (many talk fault deep from_root)
unfolding many
many-few talk fault deep from_root = world-few few _ _ refl

pub returns-clause-root : goal.returns-clause-root
unfolding cut_worlds open_among walk
returns-clause-root c = open-few few refl _ (many-few (At (beside 7)) (At (beside 7)) (At (beside 7)) (At subtree)) [] 1 _ refl

pub returns-clause-talk : goal.returns-clause-talk
unfolding cut_worlds open_among walk
returns-clause-talk c = open-few few refl _ (many-few (At (beside 7)) (At (beside 7)) (At (beside 7)) Null) [] 1 _ refl

pub returns-clause-fault : goal.returns-clause-fault
unfolding cut_worlds open_among walk
returns-clause-fault c = open-few few refl _ (many-few (At root_port) (At (beside 7)) (At (beside 7)) Null) [] 1 _ refl

pub returns-clause-deep : goal.returns-clause-deep
unfolding cut_worlds open_among walk
returns-clause-deep c = open-few few refl _ (many-few (At root_port) (At root_port) (At (beside 7)) Null) [] 1 _ refl

pub returns-clause-deep_led_to : goal.returns-clause-deep_led_to
unfolding cut_worlds open_among walk
returns-clause-deep_led_to c = open-few few refl _ (many-few (At root_port) (At root_port) Null (At (7 ∷ in_subtree 2))) [] 1 _ refl

pub returns-clause-last : goal.returns-clause-last
unfolding cut_worlds open_among walk
returns-clause-last c = open-few few refl _ (many-few (At root_port) (At root_port) Null Null) [] 1 _ refl

pub returns-clause-lower_field : goal.returns-clause-lower_field
unfolding cut_worlds open_among walk
returns-clause-lower_field c = open-few few refl _ (many-few (At root_port) (At root_port) Null (At (in_subtree 4))) [] 1 _ refl
