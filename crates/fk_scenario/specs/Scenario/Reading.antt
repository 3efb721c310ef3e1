-- What a document says: a scenario, or the first refusal.
use Rattle.std.specs.Prelude.{ℕ, pos, List, [], ◌∷◌, Option, Some, None, option_map, unwrap_or, if◌then◌else◌, Result, Ok, Err, codes}
use Rattle.std.specs.Str.{is_utf8}
use Rattle.toml.specs.Data.{Items, no_items, Members, no_members}
use Rattle.toml.specs.Parse.{parse_document}
use Rattle.toml.specs.View.{table_view, array_view}
use Rattle.fk_model.specs.declared.moves.Rule.{Rule}
use Rattle.fk_scenario.specs.declared.fields.fail.ScenarioError.{ScenarioError}
use Rattle.fk_scenario.specs.Fields.Gives.{◌>>=◌, placed}
use Rattle.fk_scenario.specs.Fields.Fields.{known, integer_in, array_in, table_in, needed_integer, ranged}
use Rattle.fk_scenario.specs.declared.scenario.reading.Top as code_top
use Rattle.fk_scenario.specs.declared.scenario.reading.Sections as code
use Rattle.fk_scenario.specs.declared.scenario.reading.Places.{Places}
use Rattle.fk_scenario.specs.declared.scenario.reading.Round.{Round}
use Rattle.fk_scenario.specs.declared.scenario.scenario.Scenario.{Scenario}
use Rattle.fk_scenario.specs.Sections.Programs.{programs_from}
use Rattle.fk_scenario.specs.Sections.Spaces.{spaces_from}
use Rattle.fk_scenario.specs.Sections.Objects.{objects_from}
use Rattle.fk_scenario.specs.Sections.Servers.{servers_from}
use Rattle.fk_scenario.specs.Sections.Jobs.{entries_from}
use Rattle.fk_scenario.specs.Scenario.Servers.{serving_from}
use Rattle.fk_scenario.specs.Scenario.Jobs.{jobs_from}
use Rattle.fk_scenario.specs.Scenario.Aims.{aims_from}

-- the sections as they stand in the document; one that isn't there is empty
pub record Sections : Type 0 where
  pub programs : Members
  pub spaces : Items
  pub objects : Items
  pub servers : Items
  pub jobs : Items

-- the same as the code has them
abbrev pub sections_view : code.Sections → Sections
sections_view sections = record {
  programs = unwrap_or (option_map (λ t. table_view t.now) sections.programs) no_members;
  spaces = unwrap_or (option_map (λ a. array_view a.now) sections.spaces) no_items;
  objects = unwrap_or (option_map (λ a. array_view a.now) sections.objects) no_items;
  servers = unwrap_or (option_map (λ a. array_view a.now) sections.servers) no_items;
  jobs = unwrap_or (option_map (λ a. array_view a.now) sections.jobs) no_items;
}

-- their types
unfoldable pub sections_of : Members → Result Sections ℕ
sections_of ms = do
  programs ← table_in (codes "programs") ms
  spaces ← array_in (codes "space") ms
  objects ← array_in (codes "object") ms
  servers ← array_in (codes "server") ms
  jobs ← array_in (codes "job") ms
  Ok (record {
    programs = unwrap_or programs no_members;
    spaces = unwrap_or spaces no_items;
    objects = unwrap_or objects no_items;
    servers = unwrap_or servers no_items;
    jobs = unwrap_or jobs no_items;
  })

-- what the top keys have: two numbers and the sections
pub record Top : Type 0 where
  pub budget : ℕ
  pub workers : ℕ
  pub sections : Sections

-- the same as the code has it
abbrev pub top_view : code_top.Top → Top
top_view top = record { budget = top.budget; workers = top.workers; sections = sections_view top.sections }

-- the top keys: which there are and their types (2), then their ranges (3)
unfoldable pub top_of : Members → Result Top ℕ
top_of ms = do
  _ ← known (codes "budget" ∷ codes "workers" ∷ codes "programs" ∷ codes "space" ∷ codes "object" ∷ codes "server" ∷ codes "job" ∷ []) ms
  budget ← needed_integer (codes "budget") ms
  workers ← integer_in (codes "workers") ms
  sections ← sections_of ms
  budget ← ranged 1 1000000 budget
  workers ← ranged 1 8 (unwrap_or workers (pos 1))
  Ok (record { budget = budget; workers = workers; sections = sections })

-- what is there: programs, spaces and objects, each after those before it
unfoldable pub places_of : Sections → Result Places ScenarioError
places_of sections = do
  programs ← programs_from [] sections.programs
  spaces ← spaces_from programs [] sections.spaces
  objects ← objects_from spaces [] sections.objects
  Ok (record { programs = programs; spaces = spaces; objects = objects })

-- first round: the sections in their order, each entry by its rules but for those of the second
unfoldable pub first_round : List (List ℕ × Rule) → Sections → Result Round ScenarioError
first_round rules sections = do
  places ← places_of sections
  servers ← servers_from rules [] sections.servers
  jobs ← entries_from [] sections.jobs
  Ok (record { programs = places.programs; spaces = places.spaces; objects = places.objects; servers = servers; jobs = jobs })

-- second round: what objects lead to (7), what servers serve (9), and whose jobs they are (10)
unfoldable pub second_round : ℕ → ℕ → Round → Result Scenario ScenarioError
second_round budget workers round = do
  _ ← aims_from round.spaces round.objects 0 round.objects
  _ ← serving_from round.objects [] [] round.servers
  jobs ← jobs_from round.spaces round.servers [] round.jobs
  Ok (record {
    budget = budget;
    workers = workers;
    programs = round.programs;
    spaces = round.spaces;
    objects = round.objects;
    servers = round.servers;
    jobs = jobs;
  })

-- the scenario of a document
unfoldable pub scenario_of : List (List ℕ × Rule) → Members → Result Scenario ScenarioError
scenario_of rules ms = do
  top ← placed 1 0 (top_of ms)
  round ← first_round rules top.sections
  second_round top.budget top.workers round

-- the document that bytes are, if they are one
unfoldable pub tree_of : List ℕ → Option Members
tree_of bytes = if is_utf8 bytes then parse_document bytes else None

-- bytes that are no document are refused by rule 1, without a section
abbrev pub scenario_in : List (List ℕ × Rule) → Option Members → Result Scenario ScenarioError
scenario_in rules None = Err (record { rule = 1; section = 0; index = 0 })
scenario_in rules (Some ms) = scenario_of rules ms

-- the scenario that bytes are, with the rules that servers may have, or the first refusal
unfoldable pub scenario_reading : List (List ℕ × Rule) → List ℕ → Result Scenario ScenarioError
scenario_reading rules bytes = scenario_in rules (tree_of bytes)
