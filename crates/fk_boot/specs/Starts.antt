-- With what the runs of a scenario begin, by paths.
use Rattle.std.specs.Prelude.{ℕ, List, map, filter, reverse}
use Rattle.fk_model.specs.declared.names.Who.{Who}
use Rattle.fk_model.specs.Places.{Path}
use Rattle.fk_model.specs.Who.{named}
use Rattle.fk_model.specs.World.{World}
use Rattle.fk_model.specs.Sound.{errand_of, Start}
use Rattle.fk_scenario.specs.declared.entries.types.SpaceEntry.{SpaceEntry}
use Rattle.fk_scenario.specs.declared.scenario.scenario.Scenario.{Scenario}
use Rattle.fk_boot.specs.FirstWorld.{served_ports, booted}

-- its nesters, in the order of the file
abbrev pub nesters_of : List SpaceEntry → List Path
nesters_of spaces = map (λ s. reverse s.path) (filter (λ s. s.nester) spaces)

-- a world with servers at some ports, and what the scenario has besides
abbrev pub start_with : Scenario → World → List Path → ℕ → Start
start_with s w ports budget = record { world = w; ports = ports; nesters = nesters_of s.spaces; jobs = map errand_of s.jobs; budget = budget }

-- the ports of servers by the names that the code has for them
abbrev pub ports_by : {A : Type 0} → World → List (Who × A) → List Path
ports_by w services = map (λ e. named w e.0) services

-- the start that its entries say
abbrev pub start_of : Scenario → Start
start_of s = start_with s (booted s) (map reverse (served_ports s.servers)) s.budget
