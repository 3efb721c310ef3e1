-- What the first world of a scenario gives to the runs that begin in it: no scratch, few birth numbers, whole pointers, nothing under way, and
-- who is there. So with the scenario's servers, nesters and jobs it is a sound start.
use Rattle.std.specs.Prelude.{◌≡◌, ◌≤◌, true, map, reverse}
use Rattle.fk_model.specs.Objects.{holds, is_served}
use Rattle.fk_model.specs.Places.{Path, same_path}
use Rattle.fk_model.specs.Sound.{IsUncut, IsClean, IsIdle, are_apart, is_listed, is_last_of, IsSoundStart}
use Rattle.fk_model.specs.StateRows.{is_native}
use Rattle.fk_model.specs.World.{World}
use Rattle.fk_scenario.specs.declared.scenario.scenario.Scenario.{Scenario}
use Rattle.fk_scenario.specs.Scenario.Kept.{KeepsScenario}
use Rattle.laws_moves.specs.Savable.Savable.{IsSound}
use Rattle.fk_boot.specs.FirstWorld.{booted, served_ports}
use Rattle.fk_boot.specs.Starts.{nesters_of, start_of}

pub record IsGround (s : Scenario) (w : World) : Type 0 where
  pub clean : IsClean w
  pub few : w.next ≤ 256
  pub uncut : IsUncut w
  pub idle : IsIdle w
  -- porters stand in the last slots of nesters, and in each; the ports that are served are those of servers
  pub porters : (y : Path) → holds is_native (w.body y) ≡ is_last_of (nesters_of s.spaces) y
  pub served : (y : Path) → holds is_served (w.body y) ≡ is_listed (map reverse (served_ports s.servers)) y
  pub one_each : are_apart same_path (map reverse (served_ports s.servers)) ≡ true

-- no scratch stands in it, it has given out at most 256 birth numbers, its pointers lead somewhere in it or nowhere, nothing is under way, porters stand where
-- the scenario has nesters and served ports where it has servers, and nowhere else
abbrev pub FirstWorldIsGround : Type 0
FirstWorldIsGround = (s : Scenario) → KeepsScenario s → IsGround s (booted s)

-- where its numbers are words, too: then the world is whole and savable
abbrev pub ScenariosBeginSoundly : Type 0
ScenariosBeginSoundly = (s : Scenario) → KeepsScenario s → IsSound (booted s) → IsSoundStart (start_of s)
