-- Paths: where the spaces of a store are.
use Rattle.std.specs.Prelude.{◌≡◌, ℕ, zero, suc, [], ◌∷◌, ◌==◌, Option, Some, None, if◌then◌else◌}
use Rattle.fk_model.specs.declared.names.Who.{Who}
use Rattle.fk_model.specs.declared.body.Body.{Body}
use Rattle.fk_model.specs.declared.body.Body.TheVariants.{Mutex, Cond, Mapping, Region, Port, Portset, Space, Thread, Reference}
use Rattle.fk_model.specs.Places.{Path, same_path}
use Rattle.fk_model.specs.Objects.{and_then}
use Rattle.fk_model.specs.Who.{nowhere}
use Rattle.fk_store.specs.Store.Names.{at, same_who}
use Rattle.fk_store.specs.Store.Contents.{Contents, birth_there, home}

-- the path of an object, where the paths of spaces are these
abbrev pub place : (ℕ → Path) → Who → Path
place path who = who.slot ∷ path who.space

abbrev pub from_home : (ℕ → Path) → Option Who → Path
from_home path None = nowhere
from_home path (Some who) = place path who

-- by at most n steps up
unfoldable pub path_by : ℕ → Contents → ℕ → Path
path_by zero m n = []
path_by (suc k) m n = if n == 0 then [] else from_home (path_by k m) (home m n)

-- the path of the space with a birth number. A space is younger than the one in which it lies, so the number of steps up is below its own
unfoldable pub path : Contents → ℕ → Path
path m n = path_by n m n

-- the birth number of the space at a path, found by going down from the root
unfoldable pub space_at : Contents → Path → Option ℕ
space_at m [] = Some 0
space_at m (k ∷ s) = and_then (λ n. birth_there m (at n k)) (space_at m s)

-- a space has the path at which it stands
abbrev pub IsAtHome : (ℕ → Path) → Who → Body → Type 0
IsAtHome path who (Mutex locked) = Unit {0}
IsAtHome path who Cond = Unit {0}
IsAtHome path who (Mapping first count offset write region) = Unit {0}
IsAtHome path who (Region first count write keeper) = Unit {0}
IsAtHome path who (Port set served) = Unit {0}
IsAtHome path who Portset = Unit {0}
IsAtHome path who (Space birth holder) = path birth ≡ place path who
IsAtHome path who (Thread thread) = Unit {0}
IsAtHome path who (Reference to) = Unit {0}

-- no other object has its path
abbrev pub HasOwnPath : (ℕ → Path) → Who → Type 0
HasOwnPath path who = (other : Who) →
    (same_path (place path other) (place path who) ≡ same_who other who) × (same_path (place path who) (place path other) ≡ same_who who other)
