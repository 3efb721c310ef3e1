-- Runs that are replayed: what a scenario comes to by a trace and a record.
use Rattle.std.specs.Prelude.{◌≡◌, ◌⊎◌, ⊤, ℕ, List, length}
use Rattle.fk_commands.specs.declared.outcome.Outcome.{Outcome}
use Rattle.fk_commands.specs.declared.status.Status.{Status}
use Rattle.fk_commands.specs.declared.status.Status.TheVariants.{BadRecord, NoMemory}
use Rattle.fk_commands.specs.Outcomes.{IsRefused}
use Rattle.fk_first.specs.Cores.{RunCore}
use Rattle.fk_first.specs.First.{IsFirst}
use Rattle.fk_record_text.specs.Record as records
use Rattle.fk_runs.specs.Recordings.Ports.{ports_of}
use Rattle.fk_runs.specs.RunReports.Made.{Images}
use Rattle.fk_runs.specs.Runs.Runs.{IsPlayed}
use Rattle.fk_scenario.specs.declared.scenario.scenario.Scenario.{Scenario}
use Rattle.fk_trace.specs.Posts.{all_replaying}
use Rattle.fk_recorded.specs.Pair.{lists_of}
use Rattle.fk_recorded.specs.Following.{core_with}

-- why a record isn't read: its first bad line, or want of memory
abbrev pub IsRecordFail : List (List ℕ) → List ℕ → Status → Type 0
IsRecordFail ports text (BadRecord line) = records.IsFirstBad ports text line
IsRecordFail ports text NoMemory = ⊤
IsRecordFail ports text other = ⊥

-- the replies that a record of these entries has for each server that is no console, in the order of the file
abbrev pub replies_by : Scenario → List records.Entry → List (List (List ℕ))
replies_by s entries = lists_of entries 0 (length (ports_of s.servers))

-- a trace is played with replays of these replies in the place of the servers that are no consoles
pub record IsReplayedFrom (s : Scenario) (given : Images) (replies : List (List (List ℕ))) (trace : List ℕ) (outcome : Outcome) (text : List ℕ) : Type 0 where
  pub first : RunCore
  pub is_first : IsFirst s first
  pub played : IsPlayed s.jobs given (core_with first (all_replaying replies first.servers)) s.budget trace outcome.status outcome.report text

-- a record that isn't read is refused with its first bad line, before any move is made
abbrev pub IsReplayedBy : Scenario → Images → List ℕ → List ℕ → Outcome → List ℕ → Type 0
IsReplayedBy s given trace record_ outcome text =
    ((line : ℕ) × records.IsFirstBad (ports_of s.servers) record_ line × IsRefused (BadRecord line) outcome text)
    ⊎ ((entries : List records.Entry) × records.Spells (ports_of s.servers) record_ entries
    × IsReplayedFrom s given (replies_by s entries) trace outcome text)
