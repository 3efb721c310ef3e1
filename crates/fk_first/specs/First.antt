-- The core with which a scenario begins.
use Rattle.std.specs.Prelude.{◌≡◌, [], map, None}
use Rattle.fk_model.specs.Who.{named}
use Rattle.fk_boot.specs.FirstWorld.{booted}
use Rattle.fk_boot.specs.Services.{first_services}
use Rattle.fk_core.specs.Cores.Cores.{RunCore}
use Rattle.fk_core.specs.Cores.Served.{Services}
use Rattle.fk_scenario.specs.declared.scenario.scenario.Scenario.{Scenario}
use Rattle.laws_moves.specs.Savable.Savable.{IsSound}

-- its first world, which is sound; no job has begun, whatever the servers are
pub record IsBegun (s : Scenario) (c : RunCore) : Type 0 where
  pub world : c.world ≡ booted s
  pub sound : IsSound c.world
  pub ends : c.ends ≡ []
  pub work : c.work ≡ None
  pub events : c.events ≡ 0

-- its first world, which is sound, and its servers as they are at first, each at its port; no job has begun. So it is a sound start, by
-- `laws_first::scenarios_begin_soundly`
pub record IsFirst (s : Scenario) (c : RunCore) : Type 0 where
  pub world : c.world ≡ booted s
  pub sound : IsSound c.world
  pub servers : map (λ e. (named c.world e.0, e.1)) c.servers ≡ first_services s.servers
  pub ends : c.ends ≡ []
  pub work : c.work ≡ None
  pub events : c.events ≡ 0

-- a core that differs from one with which the scenario begins in its servers alone, which come of that one's by a function
pub record IsFirstWith (s : Scenario) (with : Services → Services) (c : RunCore) : Type 0 where
  pub first : RunCore
  pub is_first : IsFirst s first
  pub same : c ≡ record { world = first.world; servers = with first.servers; ends = first.ends; work = first.work; events = first.events }
