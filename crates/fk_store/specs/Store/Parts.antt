-- Parts: which threads serve whom, by paths.
use Rattle.std.specs.Prelude.{ℕ, Bool, ◌&&◌, Option, Some}
use Rattle.fk_model.specs.Objects as objects
use Rattle.fk_model.specs.Objects.{and_then, holds}
use Rattle.fk_model.specs.Places.{Path, leads_to}
use Rattle.fk_model.specs.Searches as searches
use Rattle.fk_model.specs.World.{serves}
use Rattle.fk_store_graph.specs.declared.leads.parts.Part.{Part}
use Rattle.fk_store_graph.specs.declared.leads.parts.Part.TheVariants.{Client, Faulter, Guest}
use Rattle.fk_store.specs.Store.Contents.{Contents}
use Rattle.fk_store.specs.Store.Paths.{path, place}
use Rattle.fk_store.specs.Store.World.{world}
use Rattle.fk_model.specs.Searches.{thread_at}

-- a thread plays a part, by paths
abbrev pub played : (ℕ → Path) → Part → Option objects.Thread → Bool
played p (Client server) t = holds (λ (talk : objects.Talk). serves (place p server) talk.peer) (and_then (λ (t : objects.Thread). t.talk) t)
played p (Faulter taker) t = holds (λ (fault : objects.Fault). holds (serves (place p taker)) fault.taker) (and_then (λ (t : objects.Thread). t.fault) t)
played p (Guest port) t =
    holds (λ (talk : objects.Talk). leads_to (place p port) talk.port && searches.is_service talk.peer) (and_then (λ (t : objects.Thread). t.talk) t)

abbrev pub played_at : Contents → Part → Path → Bool
played_at m part x = played (path m) part (thread_at (world m) x)
