-- What paths and sets of objects lead to.
use Rattle.std.specs.Prelude.{ℕ, ◌+◌, Bool, true, false, not, ◌&&◌, ◌||◌, ◌==◌, List, [], ◌∷◌, ◌++◌, length, Option, Some, None, Result, Ok}
use Rattle.std.specs.List.{find}
use Rattle.std.specs.Str.{bytes_eq}
use Rattle.fk_scenario.specs.declared.fields.fail.ScenarioError.{ScenarioError}
use Rattle.fk_scenario.specs.Fields.Gives.{◌>>=◌, unless, placed}
use Rattle.fk_scenario.specs.Fields.Paths.{enclosing}
use Rattle.fk_scenario.specs.declared.entries.types.SpaceEntry.{SpaceEntry}
use Rattle.fk_scenario.specs.declared.entries.types.ObjectEntry.{ObjectEntry}
use Rattle.fk_scenario.specs.declared.entries.types.Spec.{Spec}
use Rattle.fk_scenario.specs.declared.entries.types.Spec.TheVariants.{Thread, Portset, Mapping, Region, Port, Reference}
use Rattle.fk_scenario.specs.Sections.Spaces.{has_space}

-- the object with a path
abbrev pub object_with : List ObjectEntry → List ℕ → Option ObjectEntry
object_with objects path = find (λ o. bytes_eq o.path path) objects

abbrev pub is_region_spec : Spec → Bool
is_region_spec (Region first count write keeper) = true
is_region_spec _ = false

abbrev pub is_port_spec : Spec → Bool
is_port_spec (Port set) = true
is_port_spec _ = false

abbrev pub is_portset_spec : Spec → Bool
is_portset_spec Portset = true
is_portset_spec _ = false

-- a reference may lead to it
abbrev pub can_be_referred_to : Spec → Bool
can_be_referred_to (Mapping region first count offset write) = true
can_be_referred_to (Region first count write keeper) = true
can_be_referred_to (Port set) = true
can_be_referred_to (Thread entry regs stops) = true
can_be_referred_to _ = false

-- an object is there and is such a one
abbrev pub is_one : (Spec → Bool) → Option ObjectEntry → Bool
is_one test None = false
is_one test (Some object) = test object.spec

-- a path, where one is given, leads to such an object
abbrev pub aims_at : List ObjectEntry → (Spec → Bool) → Option (List ℕ) → Bool
aims_at objects test None = true
aims_at objects test (Some path) = is_one test (object_with objects path)

-- a path, where one is given, leads to what a reference may lead to: such an object, or a space but the root
abbrev pub refers_to : List SpaceEntry → List ObjectEntry → Option (List ℕ) → Bool
refers_to spaces objects None = true
refers_to spaces objects (Some path) = not (length path == 0) && (has_space spaces path || is_one can_be_referred_to (object_with objects path))

-- a set, where one is given, is in a slot of this space
abbrev pub has_set : List ObjectEntry → List ℕ → Option ℕ → Bool
has_set objects space None = true
has_set objects space (Some slot) = is_one is_portset_spec (object_with objects (space ++ slot ∷ []))

-- the space of an object
abbrev pub entry_space : ObjectEntry → List ℕ
entry_space o = enclosing o.path

-- what an object's fields lead to is there, and they can hold it
abbrev pub aims_well : List SpaceEntry → List ObjectEntry → List ℕ → Spec → Bool
aims_well spaces objects space (Mapping region first count offset write) = aims_at objects is_region_spec region
aims_well spaces objects space (Region first count write keeper) = aims_at objects is_port_spec keeper
aims_well spaces objects space (Port set) = has_set objects space set
aims_well spaces objects space (Reference to) = refers_to spaces objects to
aims_well spaces objects space other = true

-- the objects from an index on; one that aims badly is rule 7
unfoldable pub aims_from : List SpaceEntry → List ObjectEntry → ℕ → List ObjectEntry → Result (Unit {0}) ScenarioError
aims_from spaces objects index [] = Ok tt
aims_from spaces objects index (o ∷ os) =
    placed 4 index (unless 7 (aims_well spaces objects (entry_space o) o.spec)) >>= λ _. aims_from spaces objects (index + 1) os
