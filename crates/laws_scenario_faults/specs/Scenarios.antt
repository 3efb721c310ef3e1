-- The scenario that a document says: each of its entries is right, and each field of the scenario is told by the entry that gives it.
use Rattle.std.specs.Prelude.{◌≡◌, ◌≢◌, ◌<◌, ◌≤◌, ◌↔◌, ℕ, ◌+◌, pos, Bool, true, false, List, [], ◌∷◌, ◌++◌, length, map, flat_map, All, Option, Some, Ok, codes}
use Rattle.toml.specs.Data.{Data, no_items, item, Members, string, integer, array}
use Rattle.fk_model.specs.Names.{is_name}
use Rattle.fk_model.specs.declared.moves.Rule.{Rule}
use Rattle.fk_model.specs.declared.job.JobSpec.{JobSpec}
use Rattle.fk_asm.specs.Assembler.{assembled}
use Rattle.fk_scenario.specs.Fields.Paths.{enclosing}
use Rattle.fk_scenario.specs.declared.entries.types.Program.{Program}
use Rattle.fk_scenario.specs.declared.entries.types.SpaceEntry.{SpaceEntry}
use Rattle.fk_scenario.specs.declared.entries.types.ObjectEntry.{ObjectEntry}
use Rattle.fk_scenario.specs.declared.entries.types.Spec.{Spec}
use Rattle.fk_scenario.specs.declared.entries.types.Spec.TheVariants.{Thread, Mutex, Cond, Portset, Mapping, Region, Port, Reference}
use Rattle.fk_scenario.specs.declared.entries.types.ServerEntry.{ServerEntry}
use Rattle.fk_scenario.specs.declared.entries.types.ServiceSpec.{ServiceSpec}
use Rattle.fk_scenario.specs.declared.entries.types.ServiceSpec.TheVariants.{Console, Listed}
use Rattle.fk_scenario.specs.declared.entries.jobs.JobEntry.{JobEntry}
use Rattle.fk_scenario.specs.declared.entries.jobs.JobKind.{JobKind}
use Rattle.fk_scenario.specs.declared.entries.jobs.JobKind.TheVariants.{Checkpoint, Restore}
use Rattle.fk_scenario.specs.Entries.Servers.{rule_from}
use Rattle.fk_scenario.specs.Sections.Kept.{EachAfter}
use Rattle.fk_scenario.specs.Sections.Programs.{position_of}
use Rattle.fk_scenario.specs.Sections.Spaces.{has_space, has_space_or_root, may_stand, count_beneath}
use Rattle.fk_scenario.specs.Sections.Objects.{has_object}
use Rattle.fk_scenario.specs.declared.scenario.scenario.Scenario.{Scenario}
use Rattle.fk_scenario.specs.Scenario.Aims.{aims_well, entry_space}
use Rattle.fk_scenario.specs.Scenario.Servers.{may_serve, alias_of}
use Rattle.fk_scenario.specs.Scenario.Jobs.{nester_from, first_number, may_be_done, job_spec}
use Rattle.fk_scenario.specs.Scenario.Reading.{scenario_reading, tree_of}
use Rattle.laws_scenario_faults.specs.Tables.{has_only}
use Rattle.laws_scenario_faults.specs.Entries.{are_distinct}
use Rattle.laws_scenario_faults.specs.Keys.{IsText, IsFlag, IsNumber, IsName, IsPath, AreEach, AreValues, AreMembers, OfTable, At, AtOr, AtIf}

-- ---- the entries of a section

-- each entry says the element in its place, after the elements before it, and there is no other
abbrev pub EachSays : {E X : Type 0} → (List X → E → X → Type 0) → List X → List E → List X → Type 0
EachSays Says before [] [] = Unit {0}
EachSays Says before [] (x ∷ xs) = ⊥
EachSays Says before (entry ∷ entries) [] = ⊥
EachSays Says before (entry ∷ entries) (x ∷ xs) = Says before entry x × EachSays Says (before ++ x ∷ []) entries xs

-- the tables of the array at a key say these; where there is no such key there are none
abbrev pub SectionSays : {X : Type 0} → (List X → Members → X → Type 0) → List ℕ → Members → List X → Type 0
SectionSays Says key ms xs = (entries : List Data) × AtOr [] AreValues key ms entries × EachSays (λ before. OfTable (Says before)) [] entries xs

-- ---- programs, in the order of their names

pub record SaysProgram (before : List Program) (entry : List ℕ × Data) (p : Program) : Type 0 where
  pub name : p.name ≡ entry.0
  pub is_one : is_name entry.0 ≡ true
  pub words : (text : List ℕ) × (entry.1 ≡ string text) × (assembled text ≡ Ok p.words)

-- ---- spaces

-- the name of a program that is there, by its index
abbrev pub IsProgram : List Program → Data → ℕ → Type 0
IsProgram programs value index = (name : List ℕ) × (value ≡ string name) × (is_name name ≡ true) × (position_of programs name ≡ Some index)

-- with it there are at most 255 spaces besides the root
pub record SaysSpace (programs : List Program) (before : List SpaceEntry) (ms : Members) (s : SpaceEntry) : Type 0 where
  pub keys : has_only (codes "path" ∷ codes "program" ∷ codes "pages" ∷ codes "nester" ∷ []) ms ≡ true
  pub path : At IsPath (codes "path") ms s.path
  pub program : AtIf (IsProgram programs) (codes "program") ms s.program
  pub pages : AtOr [] (AreEach (IsNumber 0 255)) (codes "pages") ms s.pages
  pub nester : AtOr false IsFlag (codes "nester") ms s.nester
  pub stands : may_stand before s.path ≡ true
  pub few : count_beneath (before ++ s ∷ []) ≤ 255

-- ---- objects, by their kinds

pub record SaysThread (ms : Members) (entry : ℕ) (regs : List ℕ) (stops : ℕ) : Type 0 where
  pub keys : has_only (codes "at" ∷ codes "kind" ∷ codes "entry" ∷ codes "regs" ∷ codes "stops" ∷ []) ms ≡ true
  pub entry_at : AtOr 0 (IsNumber 0 16383) (codes "entry") ms entry
  pub regs_at : AtOr [] (AreEach (IsNumber 0 9223372036854775807)) (codes "regs") ms regs
  pub few : length regs ≤ 16
  pub stops_at : AtOr 0 (IsNumber 0 65535) (codes "stops") ms stops

pub record SaysMutex (ms : Members) (locked : Bool) : Type 0 where
  pub keys : has_only (codes "at" ∷ codes "kind" ∷ codes "locked" ∷ []) ms ≡ true
  pub locked_at : AtOr false IsFlag (codes "locked") ms locked

-- pages of a space: one or more of the 256
pub record SaysWindow (ms : Members) (first count : ℕ) : Type 0 where
  pub first_at : AtOr 0 (IsNumber 0 255) (codes "first") ms first
  pub count_at : AtOr 1 (IsNumber 1 256) (codes "count") ms count
  pub inside : first + count ≤ 256

pub record SaysMapping (ms : Members) (region : Option (List ℕ)) (first count offset : ℕ) (write : Bool) : Type 0 where
  pub keys : has_only (codes "at" ∷ codes "kind" ∷ codes "region" ∷ codes "first" ∷ codes "count" ∷ codes "offset" ∷ codes "write" ∷ []) ms ≡ true
  pub region_at : AtIf IsPath (codes "region") ms region
  pub window : SaysWindow ms first count
  pub offset_at : AtOr 0 (IsNumber 0 255) (codes "offset") ms offset
  pub write_at : AtOr false IsFlag (codes "write") ms write

pub record SaysRegion (ms : Members) (first count : ℕ) (write : Bool) (keeper : Option (List ℕ)) : Type 0 where
  pub keys : has_only (codes "at" ∷ codes "kind" ∷ codes "first" ∷ codes "count" ∷ codes "write" ∷ codes "keeper" ∷ []) ms ≡ true
  pub window : SaysWindow ms first count
  pub write_at : AtOr false IsFlag (codes "write") ms write
  pub keeper_at : AtIf IsPath (codes "keeper") ms keeper

pub record SaysPort (ms : Members) (set : Option ℕ) : Type 0 where
  pub keys : has_only (codes "at" ∷ codes "kind" ∷ codes "set" ∷ []) ms ≡ true
  pub set_at : AtIf (IsNumber 0 239) (codes "set") ms set

pub record SaysReference (ms : Members) (to : Option (List ℕ)) : Type 0 where
  pub keys : has_only (codes "at" ∷ codes "kind" ∷ codes "to" ∷ []) ms ≡ true
  pub to_at : AtIf IsPath (codes "to") ms to

abbrev pub HasNoOwnKeys : Members → Type 0
HasNoOwnKeys ms = has_only (codes "at" ∷ codes "kind" ∷ []) ms ≡ true

-- the kind that is written, and what its keys say
abbrev pub SaysSpec : Members → Spec → Type 0
SaysSpec ms (Thread entry regs stops) = At IsText (codes "kind") ms (codes "thread") × SaysThread ms entry regs stops
SaysSpec ms (Mutex locked) = At IsText (codes "kind") ms (codes "mutex") × SaysMutex ms locked
SaysSpec ms Cond = At IsText (codes "kind") ms (codes "cond") × HasNoOwnKeys ms
SaysSpec ms Portset = At IsText (codes "kind") ms (codes "portset") × HasNoOwnKeys ms
SaysSpec ms (Mapping region first count offset write) = At IsText (codes "kind") ms (codes "mapping") × SaysMapping ms region first count offset write
SaysSpec ms (Region first count write keeper) = At IsText (codes "kind") ms (codes "region") × SaysRegion ms first count write keeper
SaysSpec ms (Port set) = At IsText (codes "kind") ms (codes "port") × SaysPort ms set
SaysSpec ms (Reference to) = At IsText (codes "kind") ms (codes "reference") × SaysReference ms to

-- it is in a slot of a space that is there, in which nothing else is
pub record SaysObject (spaces : List SpaceEntry) (before : List ObjectEntry) (ms : Members) (o : ObjectEntry) : Type 0 where
  pub path : At IsPath (codes "at") ms o.path
  pub spec : SaysSpec ms o.spec
  pub inside : 0 < length o.path
  pub in_space : has_space_or_root spaces (enclosing o.path) ≡ true
  pub no_space : has_space spaces o.path ≡ false
  pub no_object : has_object before o.path ≡ false

-- ---- servers

-- a console has an alias; any other has a rule of the table, and a configuration
abbrev pub SaysService : List (List ℕ × Rule) → Members → ServiceSpec → Type 0
SaysService rules ms (Console alias) =
    (has_only (codes "port" ∷ codes "rule" ∷ codes "alias" ∷ []) ms ≡ true) × At IsText (codes "rule") ms (codes "console")
    × At IsName (codes "alias") ms alias
SaysService rules ms (Listed index rule config) = (name : List ℕ)
    × (has_only (codes "port" ∷ codes "rule" ∷ codes "config" ∷ []) ms ≡ true) × At IsText (codes "rule") ms name × (name ≢ codes "console")
    × (rule_from 0 rules name ≡ Some (index, rule)) × AtOr [] (AreEach (IsNumber 0 9223372036854775807)) (codes "config") ms config

pub record SaysServer (rules : List (List ℕ × Rule)) (before : List ServerEntry) (ms : Members) (v : ServerEntry) : Type 0 where
  pub port : At IsPath (codes "port") ms v.port
  pub service : SaysService rules ms v.service

-- its port is there, in no set and served by no server before, and no console before has its alias
abbrev pub MayServe : List ObjectEntry → List ServerEntry → ServerEntry → Type 0
MayServe objects before v = may_serve objects (map (λ t. t.port) before) (flat_map (λ t. alias_of t.service) before) v ≡ true

-- ---- jobs

-- an array of two slots
abbrev pub IsPair : Data → ℕ × ℕ → Type 0
IsPair value p = (value ≡ array (item (integer (pos p.0)) (item (integer (pos p.1)) no_items))) × (p.0 ≤ 239) × (p.1 ≤ 239)

-- a restore alone binds slots, each of the nester's at most once
abbrev pub SaysKind : Members → JobKind → Type 0
SaysKind ms Checkpoint =
    At IsText (codes "kind") ms (codes "checkpoint")
    × (has_only (codes "kind" ∷ codes "at" ∷ codes "nester" ∷ codes "slot" ∷ codes "image" ∷ []) ms ≡ true)
SaysKind ms (Restore bind) =
    At IsText (codes "kind") ms (codes "restore")
    × (has_only (codes "kind" ∷ codes "at" ∷ codes "nester" ∷ codes "slot" ∷ codes "image" ∷ codes "bind" ∷ []) ms ≡ true)
    × AtOr [] (AreEach IsPair) (codes "bind") ms bind × (are_distinct [] bind ≡ true)

pub record SaysJob (before : List JobEntry) (ms : Members) (j : JobEntry) : Type 0 where
  pub few : length before < 16
  pub kind : SaysKind ms j.kind
  pub moment : AtOr 0 (IsNumber 0 1000000) (codes "at") ms j.moment
  pub nester : At IsPath (codes "nester") ms j.nester
  pub slot : At (IsNumber 0 239) (codes "slot") ms j.slot
  pub image : At IsName (codes "image") ms j.image

-- the job that an entry asks for: its nester is there, by its birth number, and it may be done after the jobs before it
abbrev pub IsJobOf : List SpaceEntry → List ServerEntry → List JobSpec → JobEntry → JobSpec → Type 0
IsJobOf spaces servers before j job = (birth : ℕ) × (nester_from (first_number spaces) spaces j.nester ≡ Some birth)
    × (may_be_done spaces servers before j j.kind ≡ true) × (job ≡ job_spec birth j j.kind)

-- ---- the whole

-- a document says a scenario, with the rules that servers may have
pub record Says (rules : List (List ℕ × Rule)) (ms : Members) (s : Scenario) : Type 0 where
  pub keys : has_only
      (codes "budget" ∷ codes "workers" ∷ codes "programs" ∷ codes "space" ∷ codes "object" ∷ codes "server" ∷ codes "job" ∷ []) ms ≡ true
  pub budget : At (IsNumber 1 1000000) (codes "budget") ms s.budget
  pub workers : AtOr 1 (IsNumber 1 8) (codes "workers") ms s.workers
  pub programs : (entries : List (List ℕ × Data)) × AtOr [] AreMembers (codes "programs") ms entries × EachSays SaysProgram [] entries s.programs
  pub spaces : SectionSays (SaysSpace s.programs) (codes "space") ms s.spaces
  pub objects : SectionSays (SaysObject s.spaces) (codes "object") ms s.objects
  pub aims : All (λ o. aims_well s.spaces s.objects (entry_space o) o.spec ≡ true) s.objects
  pub servers : SectionSays (SaysServer rules) (codes "server") ms s.servers
  pub serving : EachAfter (MayServe s.objects) [] s.servers
  pub jobs : (asked : List JobEntry) × SectionSays SaysJob (codes "job") ms asked × EachSays (IsJobOf s.spaces s.servers) [] asked s.jobs

-- bytes are a document that says a scenario
abbrev pub BytesSay : List (List ℕ × Rule) → List ℕ → Scenario → Type 0
BytesSay rules bytes s = (ms : Members) × (tree_of bytes ≡ Some ms) × Says rules ms s

-- a scenario is read exactly where the bytes say it
abbrev pub ScenariosAreSaid : Type 0
ScenariosAreSaid = (rules : List (List ℕ × Rule)) (bytes : List ℕ) (s : Scenario) → (scenario_reading rules bytes ≡ Ok s) ↔ BytesSay rules bytes s
