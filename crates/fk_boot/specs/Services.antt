-- The native servers of a scenario as they are at first.
use Rattle.std.specs.Prelude.{◌≡◌, ℕ, List, [], map, reverse}
use Rattle.fk_model.specs.declared.names.Who.{Who}
use Rattle.fk_model.specs.Places.{Path}
use Rattle.fk_model.specs.Who.{named}
use Rattle.fk_model.specs.World.{World}
use Rattle.fk_natives.specs.declared.service.Side.TheVariants.{Idle}
use Rattle.fk_natives.specs.declared.native.Native.{Native}
use Rattle.fk_natives.specs.Both.{meaning}
use Rattle.fk_natives.specs.Natives.{State, OfConsole, OfServer}
use Rattle.fk_scenario.specs.declared.entries.types.ServerEntry.{ServerEntry}
use Rattle.fk_scenario.specs.declared.entries.types.ServiceSpec.{ServiceSpec}
use Rattle.fk_scenario.specs.declared.entries.types.ServiceSpec.TheVariants.{Console, Listed}

-- a server has no client, and has neither been sent nor replied anything
abbrev pub first_state : ServiceSpec → State
first_state (Console alias) = OfConsole alias [] Idle
first_state (Listed index rule config) = OfServer index rule config 0 [] [] Idle

-- each at the port that its entry names, in the order of the file
abbrev pub first_services : List ServerEntry → List (Path × State)
first_services servers = map (λ s. (reverse s.port, first_state s.service)) servers

-- servers as the code has them, by the paths of their ports
abbrev pub by_paths : World → List (Who × Native) → List (Path × State)
by_paths w services = map (λ e. (named w e.0, meaning e.1)) services
