-- Clients: whether the native servers of ports keep theirs.
use Rattle.std.specs.Prelude.{◌≡◌, false, Option, Some, None, if◌then◌else◌}
use Rattle.fk_model.specs.Objects.{Talk, Thread, Body, thread_of, and_then, holds}
use Rattle.fk_model.specs.Places.{Path, same_path}
use Rattle.fk_model.specs.Searches.{is_service}
use Rattle.fk_model.specs.Talks.{path_to}
use Rattle.fk_model.specs.World.{World}

-- the port whose native server serves a talk
abbrev pub native_port : Talk → Option Path
native_port talk = if is_service talk.peer then path_to talk.port else None

-- the port of whose native server an object is a client
abbrev pub native_in : Option Body → Option Path
native_in b = and_then native_port (and_then (λ (t : Thread). t.talk) (and_then thread_of b))

abbrev pub native_at : World → Path → Option Path
native_at w x = native_in (w.body x)

-- the port of whose server somebody is a client and will be none, as then it is one of this port's, if of any
abbrev pub lost : Option Path → Option Path → Option Path
lost None next = None
lost (Some port) next = if holds (λ other. same_path other port) next then None else Some port

-- the native server of a port has a client
pub record HasClient (w : World) (port : Path) : Type 0 where
  pub client : Path
  pub native : native_at w client ≡ Some port

-- one port's server has lost its client, and each other that had one has one
pub record LosesClient (w v : World) (port : Path) : Type 0 where
  pub had : HasClient w port
  pub none : HasClient v port → ⊥
  pub others : (p : Path) → same_path p port ≡ false → HasClient w p → HasClient v p

-- from one world to the next the server of this port has lost its client, and no other has
abbrev pub IsEnding : World → World → Option Path → Type 0
IsEnding w v None = (p : Path) → HasClient w p → HasClient v p
IsEnding w v (Some port) = LosesClient w v port
