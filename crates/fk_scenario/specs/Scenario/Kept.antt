-- What every scenario that is read keeps, and a machine that begins with it rests on.
use Rattle.std.specs.Prelude.{◌≡◌, ℕ, ◌≤◌, true, List, [], length, map, All, Some, Ok}
use Rattle.std.specs.List.{slice_get}
use Rattle.fk_model.specs.declared.moves.Rule.{Rule}
use Rattle.fk_scenario.specs.declared.entries.types.ServiceSpec.{ServiceSpec}
use Rattle.fk_scenario.specs.declared.entries.types.ServiceSpec.TheVariants.{Console, Listed}
use Rattle.fk_model.specs.declared.job.JobSpec.{JobSpec}
use Rattle.fk_model.specs.declared.job.JobSpec.TheVariants as jobs
use Rattle.fk_model.specs.Sound.{are_apart, bind_same}
use Rattle.fk_scenario.specs.declared.entries.jobs.JobEntry.{JobEntry}
use Rattle.fk_scenario.specs.Entries.Kept.{AreSlots, ArePairs}
use Rattle.fk_scenario.specs.Sections.Spaces.{count_beneath}
use Rattle.fk_scenario.specs.Sections.Kept.{EachAfter, KeepsSpace, KeepsObject}
use Rattle.fk_scenario.specs.declared.scenario.scenario.Scenario.{Scenario}
use Rattle.fk_scenario.specs.Scenario.Aims.{aims_from}
use Rattle.fk_scenario.specs.Scenario.Servers.{serving_from}
use Rattle.fk_scenario.specs.Scenario.Jobs.{jobs_from}

-- the slots of a job are ones that users may name, and it binds none twice
abbrev pub HasSlots : JobSpec → Type 0
HasSlots (jobs.Checkpoint moment nester path slot image) = AreSlots path × (slot ≤ 239)
HasSlots (jobs.Restore moment nester slot image bind) = (slot ≤ 239) × ArePairs bind × (are_apart bind_same bind ≡ true)

-- some entries say the jobs: the nester of each is there, and in what it saves no nester and no server lies
abbrev pub AreAsked : Scenario → Type 0
AreAsked s = (entries : List JobEntry) × (jobs_from s.spaces s.servers [] entries ≡ Ok s.jobs)

-- the numbers are in their ranges, all entries stand where they may, all that objects lead to is there, servers may serve, and jobs
-- may work
pub record KeepsScenario (s : Scenario) : Type 0 where
  pub budget : (1 ≤ s.budget) × (s.budget ≤ 1000000)
  pub workers : (1 ≤ s.workers) × (s.workers ≤ 8)
  pub programs : All (λ p. length p.words ≤ 16384) s.programs
  pub spaces : EachAfter (KeepsSpace s.programs) [] s.spaces
  pub few_spaces : count_beneath s.spaces ≤ 255
  pub objects : EachAfter (KeepsObject s.spaces) [] s.objects
  pub aims : aims_from s.spaces s.objects 0 s.objects ≡ Ok tt
  pub servers : serving_from s.objects [] [] s.servers ≡ Ok tt
  pub jobs : All HasSlots s.jobs
  pub asked : AreAsked s

-- ---- what servers have of the table by which they are read

-- its rules, in order
abbrev pub rules_of : List (List ℕ × Rule) → List Rule
rules_of table = map (λ r. r.1) table

-- the rule of a server stands at the place that it keeps; a console needs none
abbrev pub HasRule : List Rule → ServiceSpec → Type 0
HasRule rules (Console alias) = Unit {0}
HasRule rules (Listed index rule config) = slice_get rules index ≡ Some rule

-- each server of a scenario has a rule of these, at the place that it names
abbrev pub HasRules : List Rule → Scenario → Type 0
HasRules rules s = All (λ e. HasRule rules e.service) s.servers
