-- World: the abstract machine's world that a store stands for.
use Rattle.std.specs.Prelude.{◌≡◌, ℕ, List, [], ◌∷◌, Option, Some, None, IsSome, option_map}
use Rattle.std.specs.FinMap.{get}
use Rattle.fk_model.specs.Places.{Path}
use Rattle.fk_model.specs.Objects.{Body, and_then}
use Rattle.fk_model.specs.Objects.Body.{Space}
use Rattle.fk_model.specs.World.{World}
use Rattle.fk_model.specs.Valid.{kind_there, birth_at}
use Rattle.fk_model.specs.declared.body.Body.{Body as StoredBody}
use Rattle.fk_model.specs.declared.names.Who.{Who}
use Rattle.fk_store.specs.Store.Names.{at}
use Rattle.fk_store.specs.Store.Contents.{Contents}
use Rattle.fk_store.specs.Store.Paths.{path, place, space_at}
use Rattle.fk_store.specs.Store.Bodies.{body_by}

-- the root is the oldest space, and nobody holds it
abbrev pub root : Body
root = Space 0 None

-- what the space of a path has in a slot, and the root
abbrev pub body_at : Contents → Path → Option Body
body_at m [] = Some root
body_at m (k ∷ s) = and_then (λ n. option_map (body_by (path m)) (get m.bodies (at n k))) (space_at m s)

abbrev pub page_at : Contents → Path → ℕ → Option (List ℕ)
page_at m s page = and_then (λ n. get m.pages (n, page)) (space_at m s)

-- the world for which a store stands
unfoldable pub world : Contents → World
world m = record { body = body_at m; page = page_at m; next = m.next }

-- the path of an object, and a body by paths
abbrev pub place_of : Contents → Who → Path
place_of m who = place (path m) who

-- an object by paths
abbrev pub body_of : Contents → StoredBody → Body
body_of m b = body_by (path m) b

-- the object is there
abbrev pub IsLive : Contents → Who → Type 0
IsLive m who = IsSome (kind_there (world m) (place_of m who))

-- the space with this birth number is there
abbrev pub IsSpace : Contents → ℕ → Type 0
IsSpace m n = birth_at (world m) (path m n) ≡ Some n

-- the root alone
abbrev pub only_root : Path → Option Body
only_root [] = Some root
only_root (k ∷ s) = None

-- a root with nothing in it
abbrev pub first_world : World
first_world = record { body = only_root; page = λ s page. None; next = 1 }
