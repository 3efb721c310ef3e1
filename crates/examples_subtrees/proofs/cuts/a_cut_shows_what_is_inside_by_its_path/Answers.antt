-- Few slots are taken, and the walks look at these.
use Rattle.std.proofs.Common.{ℕ, List, [], ◌∷◌, refl}
use Rattle.examples_subtrees.specs.Cuts.{cut_worlds, all_inside}
use Rattle.examples_moves.proofs.FewSlots.{HasFew, open_among, walk, open-few, world-few}
use Rattle.examples_subtrees.proofs.cuts.a_cut_shows_what_is_inside_by_its_path.Goals as goal

abbrev few : List ℕ
few = 0 ∷ 1 ∷ 2 ∷ 4 ∷ 5 ∷ 6 ∷ 7 ∷ 9 ∷ []

all_inside-few : HasFew few all_inside
unfolding all_inside
all_inside-few = world-few few _ _ refl

pub returns-clause-closed : goal.returns-clause-closed
unfolding cut_worlds open_among walk
returns-clause-closed c = open-few few refl _ all_inside-few [] 1 _ refl
