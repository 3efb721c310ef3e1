-- Nobody holds a space here, so each move that goes is ready.
use Rattle.std.proofs.Common.{[], ◌∷◌, None, refl}
use Rattle.fk_model.specs.Objects.Body.{Space}
use Rattle.examples_moves.specs.Worked.{goes}
use Rattle.examples_moves.specs.Objects.{object_worlds, renamer, renaming, to_rename}
use Rattle.examples_moves.proofs.Unheld.{legal-unheld, list-unheld}
use Rattle.examples_moves.proofs.objects.references_follow_a_renamed_port.Goals as goal

pub returns-clause-ready : goal.returns-clause-ready
unfolding object_worlds
returns-clause-ready c =
    legal-unheld renaming (goes (renamer 10) ∷ goes (renamer 11) ∷ goes (renamer 12) ∷ []) (list-unheld (([], Space 0 None) ∷ to_rename) refl) refl

pub returns-clause-ready_set : goal.returns-clause-ready_set
unfolding object_worlds
returns-clause-ready_set c = legal-unheld renaming (goes (renamer 13) ∷ []) (list-unheld (([], Space 0 None) ∷ to_rename) refl) refl
