-- Few slots are taken, and the walks look at these.
use Rattle.std.proofs.Common.{ℕ, List, [], ◌∷◌, refl}
use Rattle.fk_model.specs.Places.{Ptr}
use Rattle.fk_model.specs.Places.Ptr.{Dead, At}
use Rattle.examples_subtrees.specs.Cuts.{cut_worlds, subtree, in_subtree, led_from_1_2}
use Rattle.examples_moves.proofs.FewSlots.{HasFew, open_among, walk, open-few, world-few}
use Rattle.examples_subtrees.proofs.cuts.a_reference_leads_inside_or_to_the_nesters_ports.Goals as goal
use Rattle.examples_moves.specs.Worked.{root_port}

abbrev few : List ℕ
few = 1 ∷ 2 ∷ 3 ∷ 8 ∷ 9 ∷ []

led_from_1_2-few : (to : Ptr) → HasFew few (led_from_1_2 to)
unfolding led_from_1_2
led_from_1_2-few to = world-few few _ _ refl

pub returns-clause-far : goal.returns-clause-far
unfolding cut_worlds open_among walk
returns-clause-far c = open-few few refl _ (led_from_1_2-few (At root_port)) subtree 2 _ refl

pub returns-clause-port : goal.returns-clause-port
unfolding cut_worlds open_among walk
returns-clause-port c = open-few few refl _ (led_from_1_2-few (At (in_subtree 9))) subtree 2 _ refl

pub returns-clause-other : goal.returns-clause-other
unfolding cut_worlds open_among walk
returns-clause-other c = open-few few refl _ (led_from_1_2-few (At (in_subtree 8))) subtree 2 _ refl

pub returns-clause-nester : goal.returns-clause-nester
unfolding cut_worlds open_among walk
returns-clause-nester c = open-few few refl _ (led_from_1_2-few (At subtree)) subtree 2 _ refl

pub returns-clause-own_root : goal.returns-clause-own_root
unfolding cut_worlds open_among walk
returns-clause-own_root c = open-few few refl _ (led_from_1_2-few (At (in_subtree 2))) subtree 2 _ refl

pub returns-clause-dead : goal.returns-clause-dead
unfolding cut_worlds open_among walk
returns-clause-dead c = open-few few refl _ (led_from_1_2-few Dead) subtree 2 _ refl
