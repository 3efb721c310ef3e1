-- Few slots are taken, and the walks look at these.
use Rattle.std.proofs.Common.{◌≡◌, ℕ, true, List, [], ◌∷◌, Option, None, Some, refl}
use Rattle.fk_model.specs.Places.{Path, Ptr}
use Rattle.fk_model.specs.Places.Ptr.{At}
use Rattle.examples_subtrees.specs.Cuts.{cut_worlds, beside, with_scratch}
use Rattle.examples_moves.proofs.FewSlots.{HasFew, is_at_few, open_among, walk, open-few, world-few}
use Rattle.examples_subtrees.proofs.cuts.the_holders_scratch_may_lead_into_what_is_held.Goals as goal

abbrev few : List ℕ
few = 1 ∷ 2 ∷ 4 ∷ 239 ∷ 240 ∷ 254 ∷ 255 ∷ []

scratch-few : (holder : Option Ptr) (scratch : Path) → is_at_few few scratch ≡ true → HasFew few (with_scratch holder scratch)
unfolding with_scratch
scratch-few holder scratch here = world-few few _ _ (rw here refl)

pub returns-clause-lowest : goal.returns-clause-lowest
unfolding cut_worlds open_among walk
returns-clause-lowest c = open-few few refl _ (scratch-few (Some (At (255 ∷ []))) (240 ∷ []) refl) [] 1 _ refl

pub returns-clause-highest : goal.returns-clause-highest
unfolding cut_worlds open_among walk
returns-clause-highest c = open-few few refl _ (scratch-few (Some (At (255 ∷ []))) (254 ∷ []) refl) [] 1 _ refl

pub returns-clause-below : goal.returns-clause-below
unfolding cut_worlds open_among walk
returns-clause-below c = open-few few refl _ (scratch-few (Some (At (255 ∷ []))) (239 ∷ []) refl) [] 1 _ refl

pub returns-clause-unheld : goal.returns-clause-unheld
unfolding cut_worlds open_among walk
returns-clause-unheld c = open-few few refl _ (scratch-few None (240 ∷ []) refl) [] 1 _ refl

pub returns-clause-others : goal.returns-clause-others
unfolding cut_worlds open_among walk
returns-clause-others c = open-few few refl _ (scratch-few (Some (At (255 ∷ []))) (beside 240) refl) [] 1 _ refl

pub returns-clause-of_other : goal.returns-clause-of_other
unfolding cut_worlds open_among walk
returns-clause-of_other c = open-few few refl _ (scratch-few (Some (At (beside 255))) (240 ∷ []) refl) [] 1 _ refl
