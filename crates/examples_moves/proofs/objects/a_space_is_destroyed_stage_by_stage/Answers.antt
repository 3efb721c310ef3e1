-- Nobody holds a space here, so each move that goes is ready.
use Rattle.std.proofs.Common.{[], ◌∷◌, None, refl}
use Rattle.fk_model.specs.Objects.Body.{Space}
use Rattle.examples_moves.specs.Worked.{goes, times}
use Rattle.examples_moves.specs.Objects.{object_worlds, destroyer, destroying, doomed}
use Rattle.examples_moves.proofs.Unheld.{legal-unheld, list-unheld}
use Rattle.examples_moves.proofs.objects.a_space_is_destroyed_stage_by_stage.Goals as goal

pub returns-clause-ready : goal.returns-clause-ready
unfolding object_worlds
returns-clause-ready c = legal-unheld destroying (times 4 (goes destroyer)) (list-unheld (([], Space 0 None) ∷ doomed) refl) refl

pub returns-clause-stages : goal.returns-clause-stages
unfolding object_worlds
returns-clause-stages c = refl

pub returns-clause-shown : goal.returns-clause-shown
unfolding object_worlds
returns-clause-shown c = refl

pub returns-clause-pages : goal.returns-clause-pages
unfolding object_worlds
returns-clause-pages c = refl
