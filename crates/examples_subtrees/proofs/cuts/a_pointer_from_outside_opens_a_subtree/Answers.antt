-- Few slots are taken, and the walks look at these.
use Rattle.std.proofs.Common.{ℕ, List, [], ◌∷◌, refl}
use Rattle.fk_model.specs.Places.Ptr.{At}
use Rattle.fk_model.specs.Objects.{Peer}
use Rattle.fk_model.specs.Objects.Peer.{Server, Parked}
use Rattle.examples_subtrees.specs.Cuts.{cut_worlds, in_subtree, led_into, talked_into}
use Rattle.examples_moves.proofs.FewSlots.{HasFew, open_among, walk, open-few, world-few}
use Rattle.examples_subtrees.proofs.cuts.a_pointer_from_outside_opens_a_subtree.Goals as goal

abbrev few : List ℕ
few = 0 ∷ 1 ∷ 2 ∷ 3 ∷ 4 ∷ 9 ∷ []

led_into-few : HasFew few led_into
unfolding led_into
led_into-few = world-few few _ _ refl

talked_into-few : (peer : Peer) → HasFew few (talked_into peer)
unfolding talked_into
talked_into-few peer = world-few few _ _ refl

pub returns-clause-open : goal.returns-clause-open
unfolding cut_worlds open_among walk
returns-clause-open c = open-few few refl _ led_into-few [] 1 _ refl

pub returns-clause-parked : goal.returns-clause-parked
unfolding cut_worlds open_among walk
returns-clause-parked c = open-few few refl _ (talked_into-few Parked) [] 1 _ refl

pub returns-clause-served : goal.returns-clause-served
unfolding cut_worlds open_among walk
returns-clause-served c = open-few few refl _ (talked_into-few (Server (At (in_subtree 3)))) [] 1 _ refl
