-- The space in slot 6 is frozen for all but its holder, and would lose it.
use Rattle.std.proofs.Common.{[], ◌∷◌}
use Rattle.std.proofs.lemmas.Bool.{false≢true}
use Rattle.examples_moves.specs.Objects.{object_worlds}
use Rattle.examples_moves.proofs.objects.holders_and_own_spaces_are_not_destroyed_by_others.Goals as goal

pub returns-clause-other : goal.returns-clause-other
unfolding object_worlds
returns-clause-other c ready = false≢true (ready.0.others (6 ∷ []))
