-- A worked document, and the scenario that it says.
use Rattle.std.specs.Prelude.{◌≡◌, ℕ, pos, false, List, [], ◌∷◌, Some, None, codes}
use Rattle.toml.specs.Data.{Data, no_items, item, Members, no_members, member, string, integer, array, table}
use Rattle.fk_scenario.specs.declared.entries.types.SpaceEntry.{SpaceEntry}
use Rattle.fk_scenario.specs.declared.entries.types.ObjectEntry.{ObjectEntry}
use Rattle.fk_scenario.specs.declared.entries.types.Spec.TheVariants.{Thread, Reference}
use Rattle.fk_scenario.specs.declared.scenario.scenario.Scenario.{Scenario}
use Rattle.laws_scenario_faults.specs.Scenarios.{Says}

-- [[space]] path = "/1", pages = [2]
abbrev pub space_table : Members
space_table = member (codes "pages") (array (item (integer (pos 2)) no_items)) (member (codes "path") (string (codes "/1")) no_members)

-- [[object]] at = "/1/0", kind = "thread", regs = [7]
abbrev pub thread_table : Members
thread_table = member (codes "at") (string (codes "/1/0")) (member (codes "kind") (string (codes "thread"))
    (member (codes "regs") (array (item (integer (pos 7)) no_items)) no_members))

-- [[object]] at = "/1/3", kind = "reference", to = "/1/0"
abbrev pub reference_table : Members
reference_table = member (codes "at") (string (codes "/1/3")) (member (codes "kind") (string (codes "reference"))
    (member (codes "to") (string (codes "/1/0")) no_members))

-- budget = 100, one space, and in it a thread and a reference to it; with whatever top keys are besides
abbrev pub document : Members → Members
document more = member (codes "budget") (integer (pos 100)) (member (codes "object") (array (item (table thread_table) (item (table reference_table) no_items)))
    (member (codes "space") (array (item (table space_table) no_items)) more))

abbrev pub space_entry : SpaceEntry
space_entry = record { path = 1 ∷ []; program = None; pages = 2 ∷ []; nester = false }

-- the thread is stopped so often
abbrev pub thread_entry : ℕ → ObjectEntry
thread_entry stops = record { path = 1 ∷ 0 ∷ []; spec = Thread 0 (7 ∷ []) stops }

abbrev pub reference_entry : ObjectEntry
reference_entry = record { path = 1 ∷ 3 ∷ []; spec = Reference (Some (1 ∷ 0 ∷ [])) }

abbrev pub scenario : ℕ → Scenario
scenario stops = record {
  budget = 100;
  workers = 1;
  programs = [];
  spaces = space_entry ∷ [];
  objects = thread_entry stops ∷ reference_entry ∷ [];
  servers = [];
  jobs = [];
}

-- it says the scenario in which the keys that are left out have their defaults, and no other
abbrev pub SaysDefaults : Type 0
SaysDefaults = Says [] (document no_members) (scenario 0)

abbrev pub SaysNoOther : Type 0
SaysNoOther = Says [] (document no_members) (scenario 1) → ⊥

-- with a key that there isn't it says none
abbrev pub SaysNone : Type 0
SaysNone = (s : Scenario) → Says [] (document (member (codes "workerz") (integer (pos 2)) no_members)) s → ⊥
