-- The objects of a document.
use Rattle.std.specs.Prelude.{ℕ, Bool, not, ◌&&◌, List, [], ◌∷◌, ◌++◌, length, Result, Ok}
use Rattle.std.specs.List.{list_any}
use Rattle.std.specs.Str.{bytes_eq}
use Rattle.toml.specs.Data.{Data, Items, no_items, item}
use Rattle.fk_scenario.specs.declared.fields.fail.ScenarioError.{ScenarioError}
use Rattle.fk_scenario.specs.Fields.Gives.{◌>>=◌, unless, placed}
use Rattle.fk_scenario.specs.Fields.Paths.{enclosing}
use Rattle.fk_scenario.specs.declared.entries.types.SpaceEntry.{SpaceEntry}
use Rattle.fk_scenario.specs.declared.entries.types.ObjectEntry.{ObjectEntry}
use Rattle.fk_scenario.specs.Entries.Objects.{object_entry}
use Rattle.fk_scenario.specs.Sections.Spaces.{has_space, has_space_or_root}

-- an object has this path
abbrev pub has_object : List ObjectEntry → List ℕ → Bool
has_object objects path = list_any (λ o. bytes_eq o.path path) objects

-- an object after those before it: what it is by itself, then its space (5), and its slot, in which no space and no object is (6)
unfoldable pub object_after : List SpaceEntry → List ObjectEntry → Data → Result ObjectEntry ℕ
object_after spaces done value = do
  object ← object_entry value
  _ ← unless 5 (has_space_or_root spaces (enclosing object.path))
  _ ← unless 6 (not (has_space spaces object.path) && not (has_object done object.path))
  Ok object

-- the objects after those so far
unfoldable pub objects_from : List SpaceEntry → List ObjectEntry → Items → Result (List ObjectEntry) ScenarioError
objects_from spaces done no_items = Ok done
objects_from spaces done (item value rest) =
    placed 4 (length done) (object_after spaces done value) >>= λ object. objects_from spaces (done ++ object ∷ []) rest
