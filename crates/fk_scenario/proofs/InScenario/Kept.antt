-- A scenario that is read keeps what a machine rests on.
use Rattle.std.proofs.Common.{◌≡◌, ℕ, pos, ◌+◌, ◌≤◌, true, List, [], ◌∷◌, ◌++◌, length, Ok, unwrap_or, subst, codes, arith}
use Rattle.std.proofs.lemmas.List.Elements.{All-nil, All-push, All-cons, All-head, All-tail}
use Rattle.std.specs.List.{All}
use Rattle.toml.specs.Data.{Members}
use Rattle.fk_model.specs.declared.moves.Rule.{Rule}
use Rattle.fk_model.specs.declared.job.JobSpec.{JobSpec}
use Rattle.fk_scenario.specs.Fields.Gives.{or_rule, unless, placed}
use Rattle.fk_scenario.specs.Fields.Fields.{known, integer_in, needed_integer, ranged}
use Rattle.fk_scenario.proofs.InFields.Steps.{after, unless-Ok, placed-Ok}
use Rattle.fk_scenario.specs.declared.entries.types.SpaceEntry.{SpaceEntry}
use Rattle.fk_scenario.specs.declared.entries.types.ServerEntry.{ServerEntry}
use Rattle.fk_scenario.specs.declared.entries.jobs.JobEntry.{JobEntry}
use Rattle.fk_scenario.specs.declared.entries.jobs.JobKind.{JobKind}
use Rattle.fk_scenario.specs.declared.entries.jobs.JobKind.TheVariants as kinds
use Rattle.fk_scenario.specs.Entries.Kept.{BindsSlots, KeepsJob}
use Rattle.fk_scenario.proofs.InEntries.Kept.{in_range}
use Rattle.fk_scenario.specs.Sections.Programs.{programs_from}
use Rattle.fk_scenario.specs.Sections.Spaces.{spaces_from, count_beneath}
use Rattle.fk_scenario.specs.Sections.Objects.{objects_from}
use Rattle.fk_scenario.specs.Sections.Servers.{servers_from}
use Rattle.fk_scenario.specs.Sections.Jobs.{entries_from}
use Rattle.fk_scenario.specs.Sections.Kept.{EachAfter, KeepsSpace, KeepsObject}
use Rattle.fk_scenario.proofs.InSections.Kept.{IsSmall, programs_kept, spaces_kept, objects_kept, jobs_kept}
use Rattle.fk_scenario.specs.declared.scenario.reading.Places.{Places}
use Rattle.fk_scenario.specs.declared.scenario.reading.Round.{Round}
use Rattle.fk_scenario.specs.declared.scenario.scenario.Scenario.{Scenario}
use Rattle.fk_scenario.specs.Scenario.Aims.{aims_from}
use Rattle.fk_scenario.specs.Scenario.Servers.{serving_from}
use Rattle.fk_scenario.specs.Scenario.Jobs.{job_after, jobs_from, job_spec, nester_from, first_number, may_be_done}
use Rattle.fk_scenario.specs.Scenario.Reading.{Sections, sections_of, Top, top_of, places_of, first_round, second_round, scenario_of}
use Rattle.fk_scenario.specs.Scenario.Kept.{KeepsScenario, HasSlots}

-- a whole document

top_kept : (ms : Members) (top : Top) → top_of ms ≡ Ok top → (1 ≤ top.budget) × (top.budget ≤ 1000000) × (1 ≤ top.workers) × (top.workers ≤ 8)
unfolding top_of
top_kept ms top h =
    after (known (codes "budget" ∷ codes "workers" ∷ codes "programs" ∷ codes "space" ∷ codes "object" ∷ codes "server" ∷ codes "job" ∷ []) ms) _ top
    h (λ _ _ h.
    after (needed_integer (codes "budget") ms) _ top h (λ budget _ h.
    after (integer_in (codes "workers") ms) _ top h (λ workers _ h.
    after (sections_of ms) _ top h (λ sections _ h.
    after (ranged 1 1000000 budget) _ top h (λ moves are_moves h.
    after (ranged 1 8 (unwrap_or workers (pos 1))) _ top h (λ count is_count h.
    let a : moves ≡ top.budget = cc in
    let b : count ≡ top.workers = cc in
    let (a1, a2) = in_range 1 1000000 budget moves are_moves in
    let (b1, b2) = in_range 1 8 (unwrap_or workers (pos 1)) count is_count in
    (omega arith, omega arith, omega arith, omega arith)))))))

-- what is there keeps
record KeepsPlaces (places : Places) : Type 0 where
  programs : All IsSmall places.programs
  spaces : EachAfter (KeepsSpace places.programs) [] places.spaces
  few_spaces : count_beneath places.spaces ≤ 255
  objects : EachAfter (KeepsObject places.spaces) [] places.objects

places_kept : (sections : Sections) (places : Places) → places_of sections ≡ Ok places → KeepsPlaces places
unfolding places_of
places_kept sections places h =
    after (programs_from [] sections.programs) _ places h (λ programs are_programs h.
    after (spaces_from programs [] sections.spaces) _ places h (λ spaces are_spaces h.
    after (objects_from spaces [] sections.objects) _ places h (λ objects are_objects h.
    let same : record { programs = programs; spaces = spaces; objects = objects } ≡ places = cc in
    let (each, few) = spaces_kept programs [] sections.spaces spaces are_spaces tt (omega arith) in
    subst KeepsPlaces same (record {
      programs = programs_kept [] sections.programs programs are_programs (All-nil IsSmall);
      spaces = each;
      few_spaces = few;
      objects = objects_kept spaces [] sections.objects objects are_objects tt;
    }))))

-- jobs that are read after others

job_done : (ss : List SpaceEntry) (vs : List ServerEntry) (done : List JobSpec) (j : JobEntry) (x : JobSpec) → job_after ss vs done j ≡ Ok x → KeepsJob j
    → HasSlots x
unfolding job_after
job_done ss vs done j x h kept =
    after (or_rule 10 (nester_from (first_number ss) ss j.nester)) _ x h (λ birth _ h.
    after (unless 10 (may_be_done ss vs done j j.kind)) _ x h (λ _ _ h. by j.kind kept.bound birth cc))
  where
    by : (k : JobKind) → BindsSlots k → (birth : ℕ) → job_spec birth j k ≡ x → HasSlots x
    by kinds.Checkpoint bound birth same = subst HasSlots same (kept.nester, kept.slot)
    by (kinds.Restore bind) bound birth same = subst HasSlots same (kept.slot, bound.0, bound.1)

jobs_done : (ss : List SpaceEntry) (vs : List ServerEntry) (done : List JobSpec) (js : List JobEntry) (all : List JobSpec) → jobs_from ss vs done js ≡ Ok all
    → All HasSlots done → All KeepsJob js → All HasSlots all
unfolding jobs_from
jobs_done ss vs done [] all h each kept = let same : done ≡ all = cc in subst (All HasSlots) same each
jobs_done ss vs done (j ∷ js) all h each kept =
    after (placed 6 (length done) (job_after ss vs done j)) _ all h (λ x is_x h.
    let one = job_done ss vs done j x (placed-Ok 6 _ _ x is_x) (All-head KeepsJob j js kept) in
    jobs_done ss vs (done ++ x ∷ []) js all h (All-push HasSlots done x each one) (All-tail KeepsJob j js kept))

-- and the first round with them
round_kept : (rules : List (List ℕ × Rule)) (sections : Sections) (round : Round) → first_round rules sections ≡ Ok round →
    KeepsPlaces (record { programs = round.programs; spaces = round.spaces; objects = round.objects })
unfolding first_round
round_kept rules sections round h =
    after (places_of sections) _ round h (λ places are_places h.
    after (servers_from rules [] sections.servers) _ round h (λ servers _ h.
    after (entries_from [] sections.jobs) _ round h (λ jobs _ h.
    let same : record {
      programs = places.programs;
      spaces = places.spaces;
      objects = places.objects;
      servers = servers;
      jobs = jobs;
    } ≡ round = cc in
    subst (λ (r : Round). KeepsPlaces (record { programs = r.programs; spaces = r.spaces; objects = r.objects })) same
    (places_kept sections places are_places))))

round_jobs : (rules : List (List ℕ × Rule)) (sections : Sections) (round : Round) → first_round rules sections ≡ Ok round → All KeepsJob round.jobs
unfolding first_round
round_jobs rules sections round h =
    after (places_of sections) _ round h (λ places _ h.
    after (servers_from rules [] sections.servers) _ round h (λ servers _ h.
    after (entries_from [] sections.jobs) _ round h (λ jobs are_jobs h.
    let same : jobs ≡ round.jobs = cc in
    subst (All KeepsJob) same (jobs_kept [] sections.jobs jobs are_jobs (All-nil KeepsJob)))))

second_kept : (budget workers : ℕ) (round : Round) (s : Scenario) → second_round budget workers round ≡ Ok s
    → (1 ≤ budget) × (budget ≤ 1000000) × (1 ≤ workers) × (workers ≤ 8)
    → KeepsPlaces (record { programs = round.programs; spaces = round.spaces; objects = round.objects }) → All KeepsJob round.jobs → KeepsScenario s
unfolding second_round
second_kept budget workers round s h (a, b, c, d) kept slots =
    after (aims_from round.spaces round.objects 0 round.objects) _ s h (λ _ aims h.
    after (serving_from round.objects [] [] round.servers) _ s h (λ _ serving h.
    after (jobs_from round.spaces round.servers [] round.jobs) _ s h (λ jobs are_jobs h.
    let same : record {
      budget = budget;
      workers = workers;
      programs = round.programs;
      spaces = round.spaces;
      objects = round.objects;
      servers = round.servers;
      jobs = jobs;
    } ≡ s = cc in
    subst KeepsScenario same (record {
      budget = (a, b);
      workers = (c, d);
      programs = kept.programs;
      spaces = kept.spaces;
      few_spaces = kept.few_spaces;
      objects = kept.objects;
      aims = aims;
      servers = serving;
      jobs = jobs_done round.spaces round.servers [] round.jobs jobs are_jobs (All-nil HasSlots) slots;
      asked = (round.jobs, are_jobs);
    }))))

pub scenario_kept : (rules : List (List ℕ × Rule)) (ms : Members) (s : Scenario) → scenario_of rules ms ≡ Ok s → KeepsScenario s
unfolding scenario_of
scenario_kept rules ms s h =
    after (placed 1 0 (top_of ms)) _ s h (λ top is_top h.
    after (first_round rules top.sections) _ s h (λ round is_round h.
    second_kept top.budget top.workers round s h (top_kept ms top (placed-Ok 1 0 _ top is_top)) (round_kept rules top.sections round is_round)
    (round_jobs rules top.sections round is_round)))
