-- The first refusal of a document, by its sections and its two rounds.
use Rattle.std.specs.Prelude.{◌≡◌, ℕ, List, [], ◌∷◌, map, flat_map, is_some, unwrap_or, Err, codes}
use Rattle.toml.specs.Data.{Data, Members, no_members}
use Rattle.fk_model.specs.declared.moves.Rule.{Rule}
use Rattle.fk_model.specs.declared.job.JobSpec.{JobSpec}
use Rattle.fk_scenario.specs.declared.fields.fail.ScenarioError.{ScenarioError}
use Rattle.fk_scenario.specs.declared.entries.types.Program.{Program}
use Rattle.fk_scenario.specs.declared.entries.types.SpaceEntry.{SpaceEntry}
use Rattle.fk_scenario.specs.declared.entries.types.ObjectEntry.{ObjectEntry}
use Rattle.fk_scenario.specs.declared.entries.types.ServerEntry.{ServerEntry}
use Rattle.fk_scenario.specs.declared.entries.jobs.JobEntry.{JobEntry}
use Rattle.fk_scenario.specs.Scenario.Aims.{aims_well, entry_space}
use Rattle.fk_scenario.specs.Scenario.Servers.{may_serve, alias_of}
use Rattle.fk_scenario.specs.Scenario.Jobs.{nester_from, first_number, may_be_done, job_spec}
use Rattle.fk_scenario.specs.Scenario.Reading.{scenario_of}
use Rattle.laws_scenario_faults.specs.Asked.{AreKept, BreaksFirst, Section, AllKeep, BreaksAt}
use Rattle.laws_scenario_faults.specs.Tables.{members, table, entries}
use Rattle.laws_scenario_faults.specs.Entries.{top_asks, programs, spaces, servers, jobs}
use Rattle.laws_scenario_faults.specs.Objects.{objects}

-- ---- the second round: what objects lead to (7), whether servers may serve (9), and whose jobs they are (10)

abbrev pub aims : List SpaceEntry → List ObjectEntry → Section ObjectEntry ObjectEntry
aims spaces objects = record { asks = λ done o. (7, aims_well spaces objects (entry_space o) o.spec) ∷ []; says = λ done o. o }

-- a server after others, with their ports and aliases
abbrev pub serving : List ObjectEntry → Section ServerEntry ServerEntry
serving objects = record {
  asks = λ done s. (9, may_serve objects (map (λ t. t.port) done) (flat_map (λ t. alias_of t.service) done) s) ∷ [];
  says = λ done s. s;
}

abbrev pub work : List SpaceEntry → List ServerEntry → Section JobEntry JobSpec
work spaces servers = record {
  asks = λ done j.
      (10, is_some (nester_from (first_number spaces) spaces j.nester)) ∷ (10, may_be_done spaces servers done j j.kind) ∷ [];
  says = λ done j. job_spec (unwrap_or (nester_from (first_number spaces) spaces j.nester) 0) j j.kind;
}

-- ---- a document

-- what the entries of all sections say, each after those before it
pub record Said : Type 0 where
  pub programs : List Program
  pub spaces : List SpaceEntry
  pub objects : List ObjectEntry
  pub servers : List ServerEntry
  pub jobs : List JobEntry

module _ (rules : List (List ℕ × Rule)) (ms : Members) where
  abbrev pub program_entries : List (List ℕ × Data)
  program_entries = members (unwrap_or (table (codes "programs") ms) no_members)

  -- the top keys, programs, spaces and objects keep all that they are asked, and say this
  pub record SaysPlaces (ps : List Program) (ss : List SpaceEntry) (os : List ObjectEntry) : Type 0 where
    pub top : AreKept (top_asks ms)
    pub programs_keep : AllKeep programs [] program_entries ps
    pub spaces_keep : AllKeep (spaces ps) [] (entries (codes "space") ms) ss
    pub objects_keep : AllKeep (objects ss) [] (entries (codes "object") ms) os

  -- and so do servers and jobs, each by itself
  pub record SaysRound (r : Said) : Type 0 where
    pub places : SaysPlaces r.programs r.spaces r.objects
    pub servers_keep : AllKeep (servers rules) [] (entries (codes "server") ms) r.servers
    pub jobs_keep : AllKeep jobs [] (entries (codes "job") ms) r.jobs

  -- a refusal: an entry breaks its rule first, and all that is asked before keeps
  pub data Refuses : ScenarioError → Type 0 where
    OfTop : (rule : ℕ) → BreaksFirst (top_asks ms) rule → Refuses (record { rule = rule; section = 1; index = 0 })
    OfProgram : (index rule : ℕ) → AreKept (top_asks ms) → BreaksAt programs [] program_entries index rule →
        Refuses (record { rule = rule; section = 2; index = index })
    OfSpace : (ps : List Program) (index rule : ℕ) → AreKept (top_asks ms) → AllKeep programs [] program_entries ps →
        BreaksAt (spaces ps) [] (entries (codes "space") ms) index rule → Refuses (record { rule = rule; section = 3; index = index })
    OfObject : (ps : List Program) (ss : List SpaceEntry) (index rule : ℕ) → AreKept (top_asks ms) → AllKeep programs [] program_entries ps →
        AllKeep (spaces ps) [] (entries (codes "space") ms) ss → BreaksAt (objects ss) [] (entries (codes "object") ms) index rule →
        Refuses (record { rule = rule; section = 4; index = index })
    OfServer : (ps : List Program) (ss : List SpaceEntry) (os : List ObjectEntry) (index rule : ℕ) → SaysPlaces ps ss os →
        BreaksAt (servers rules) [] (entries (codes "server") ms) index rule → Refuses (record { rule = rule; section = 5; index = index })
    OfJob : (ps : List Program) (ss : List SpaceEntry) (os : List ObjectEntry) (vs : List ServerEntry) (index rule : ℕ) → SaysPlaces ps ss os →
        AllKeep (servers rules) [] (entries (codes "server") ms) vs → BreaksAt jobs [] (entries (codes "job") ms) index rule →
        Refuses (record { rule = rule; section = 6; index = index })
    OfAim : (r : Said) (index rule : ℕ) → SaysRound r → BreaksAt (aims r.spaces r.objects) [] r.objects index rule →
        Refuses (record { rule = rule; section = 4; index = index })
    OfServing : (r : Said) (aimed : List ObjectEntry) (index rule : ℕ) → SaysRound r → AllKeep (aims r.spaces r.objects) [] r.objects aimed →
        BreaksAt (serving r.objects) [] r.servers index rule → Refuses (record { rule = rule; section = 5; index = index })
    OfDone : (r : Said) (aimed : List ObjectEntry) (served : List ServerEntry) (index rule : ℕ) → SaysRound r →
        AllKeep (aims r.spaces r.objects) [] r.objects aimed → AllKeep (serving r.objects) [] r.servers served →
        BreaksAt (work r.spaces r.servers) [] r.jobs index rule → Refuses (record { rule = rule; section = 6; index = index })

-- a refusal that is told is the first one
abbrev pub RefusalsAreFirst : Type 0
RefusalsAreFirst = (rules : List (List ℕ × Rule)) (ms : Members) (e : ScenarioError) → scenario_of rules ms ≡ Err e → Refuses rules ms e

-- where an entry is the first that breaks a rule, that is what is told
abbrev pub BreaksAreTold : Type 0
BreaksAreTold = (rules : List (List ℕ × Rule)) (ms : Members) (e : ScenarioError) → Refuses rules ms e → scenario_of rules ms ≡ Err e
