-- The spaces among what was met.
use Rattle.std.specs.Prelude.{List, [], ◌∷◌, Option, Some, None, if◌then◌else◌}
use Rattle.fk_model.specs.Places.{Path}
use Rattle.laws_checkpoint.specs.Walk.{Met}
use Rattle.laws_checkpoint.specs.Assembly.{is_space_number}
use Rattle.fk_checkpoint.specs.declared.seeking.met.Met.{Met as CodeMet}
use Rattle.fk_checkpoint.specs.Seeking.Seeking.{met_of}

abbrev pub space_in : Met → List Path
space_in m = if is_space_number m.kind then m.path ∷ [] else []

abbrev pub spaces_in : Option CodeMet → List Path
spaces_in None = []
spaces_in (Some m) = space_in (met_of m)
