-- Kernels: what the clauses of a kernel speak of. Whatever a kernel may hold beside its store, these lines say what of it
-- the machine sees.
use Rattle.std.specs.Prelude.{ℕ, List, refl}
use Rattle.std.specs.Coded.{Coded, code_by, coded×, coded_list}
use Rattle.fk_model.specs.declared.names.Who.{Who}
use Rattle.fk_model.specs.Places.{Path}
use Rattle.fk_model.specs.World.{World}
use Rattle.fk_model.specs.Valid.{IsValid}
use Rattle.fk_store.specs.Store.Contents.{Contents, coded_contents}
use Rattle.fk_store.specs.Store.Names.{coded_who}
use Rattle.fk_store.specs.Store.Paths as paths
use Rattle.fk_store.specs.Store.World as worlds
use Rattle.fk_turns.specs.Steps.Kept.{AreKept}
use Rattle.fk_turns.specs.Steps.Waiting.{Standing}
use Rattle.fk_waits.specs.Waits.Lists.{Lists}

-- what a kernel keeps: its store, and where its user threads stand
pub record Kept : Type 0 where
  pub store : Contents
  pub standing : Standing

abbrev pub coded_kept : Coded Kept
coded_kept = code_by (Contents × (List Who × List (Who × Who)))
    (coded× coded_contents (coded× (coded_list coded_who) (coded_list (coded× coded_who coded_who))))
    (λ k. (k.store, (k.standing.ready, k.standing.queued))) (λ p. record { store = p.0; standing = record { ready = p.1.0; queued = p.1.1 } }) (λ _. refl)

-- its world is valid, and the lists are as they should be
pub record IsHeld (m : Contents) (waits marks : Lists) : Type 0 where
  pub valid : IsValid (worlds.world m)
  pub kept : AreKept m waits marks

-- what its store holds
abbrev pub store_of : Kept → Contents
store_of kernel = kernel.store

-- where its user threads stand
abbrev pub standing_of : Kept → Standing
standing_of kernel = kernel.standing

-- its world
abbrev pub world_of : Kept → World
world_of kernel = worlds.world (store_of kernel)

-- the paths of its spaces, by their birth numbers
abbrev pub path_of : Kept → ℕ → Path
path_of kernel = paths.path (store_of kernel)
