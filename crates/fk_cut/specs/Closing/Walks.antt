-- The objects of a subtree of a store, in the order of a walk, and what it shows of a pointer.
use Rattle.std.specs.Prelude.{◌≡◌, ℕ, true, List, [], ◌∷◌, ◌++◌, map, Option, Some, None}
use Rattle.fk_model.specs.declared.names.Who.{Who}
use Rattle.fk_model.specs.declared.body.Body.{Body as StoredBody}
use Rattle.fk_model.specs.Cut.{cut, cut_ptr, cutting, ports_of, seen_by, unheld}
use Rattle.fk_model.specs.Objects.{Body}
use Rattle.fk_model.specs.Places.{Path, Ptr, is_within}
use Rattle.fk_model.specs.Searches.{objects}
use Rattle.fk_store.specs.Store.Contents.{Contents}
use Rattle.fk_store.specs.Store.Paths.{path}
use Rattle.fk_store.specs.Store.Bodies.{body_by}
use Rattle.fk_store.specs.Store.World.{world, place_of, IsLive}

-- the root of the subtree in a slot of a nester, and all objects of the subtree seen alone, in their order
abbrev pub AreObjects : Contents → Path → ℕ → List Who → Type 0
AreObjects m nester slot whos = map (place_of m) whos ≡ map (λ q. q ++ slot ∷ nester) ([] ∷ objects (cut (world m) nester slot))

-- what the subtree with this root shows of a pointer
abbrev pub seen : Contents → Who → Ptr → Ptr
seen m root to = cut_ptr (ports_of (world m) (path m root.space) root.slot) (path m root.space) root.slot to

-- an object of the subtree with this root
pub record IsPart (m : Contents) (root who : Who) : Type 0 where
  pub live : IsLive m who
  pub inside : is_within (place_of m root) (place_of m who) ≡ true

-- who holds the root isn't seen
abbrev pub held_by : Path → Option Ptr → Option Ptr
held_by [] holder = None
held_by (k ∷ q) holder = holder

-- a body at a path of the subtree, as it is seen there
abbrev pub seen_body : Contents → Who → Path → StoredBody → Option Body
seen_body m root q b =
    Some (unheld q (seen_by (cutting (ports_of (world m) (path m root.space) root.slot) (path m root.space) root.slot) (body_by (path m) b)))
