-- No porter and no served port of a scenario's first world lies in what its checkpoints save.
use Rattle.std.proofs.Common.{◌≡◌, ℕ, ◌+◌, ◌-◌, ◌≤◌, Bool, true, false, cond, not, if◌then◌else◌, ◌&&◌, ◌||◌, ◌==◌, List, [], ◌∷◌}
use Rattle.std.proofs.Common.{◌++◌, append_assoc, length, take, drop, reverse, get_or, Some, None, option_map, Ok, refl, sym, ap, subst, ◌∙◌}
use Rattle.std.proofs.Common.{arith}
use Rattle.std.proofs.Common.{length-append, eq-eqb, eqb-true}
use Rattle.std.proofs.lemmas.List.{reverse-append, reverse-reverse}
use Rattle.std.proofs.lemmas.List.Elements.{All-nil, All-cons, All-push, All-head, All-tail}
use Rattle.std.proofs.lemmas.List.Sums.{sum_by_push}
use Rattle.std.proofs.lemmas.Slice.Eq.{bytes_eq-Decides}
use Rattle.std.proofs.lemmas.Bool.{and_parts}
use Rattle.std.specs.List.{flat_map, All}
use Rattle.std.specs.Str.{bytes_eq}
use Rattle.fk_model.specs.declared.limits.TheConstants.{LAST_PORTER_SLOT}
use Rattle.fk_model.specs.declared.job.JobSpec.{JobSpec}
use Rattle.fk_model.specs.declared.job.JobSpec.TheVariants as specs_of
use Rattle.fk_model.specs.Places.{Path, same_path}
use Rattle.fk_model.specs.Objects.{and_then, holds, is_served}
use Rattle.fk_model.specs.World.{World, Change, edited, apply, apply_all}
use Rattle.fk_model.specs.World.Change.{Alter, Make, MakeSpace, PutPage}
use Rattle.fk_model.specs.StateRows.{is_native}
use Rattle.fk_model.specs.Valid.{birth_of, birth_at}
use Rattle.fk_model.proofs.walks.PlaceLaws.{same_path_eq}
use Rattle.fk_scenario.specs.Fields.Gives.{or_rule, unless, placed}
use Rattle.fk_scenario.specs.Fields.Paths.{enclosing}
use Rattle.fk_scenario.proofs.InFields.Steps.{after, unless-Ok, or_rule-Ok, placed-Ok}
use Rattle.fk_scenario.specs.declared.entries.types.Program.{Program}
use Rattle.fk_scenario.specs.declared.entries.types.SpaceEntry.{SpaceEntry}
use Rattle.fk_scenario.specs.declared.entries.types.ServerEntry.{ServerEntry}
use Rattle.fk_scenario.specs.declared.entries.jobs.JobEntry.{JobEntry}
use Rattle.fk_scenario.specs.declared.entries.jobs.JobKind.{JobKind}
use Rattle.fk_scenario.specs.declared.entries.jobs.JobKind.TheVariants as kinds
use Rattle.fk_scenario.specs.Sections.Kept.{EachAfter, KeepsSpace}
use Rattle.fk_scenario.specs.Sections.Spaces.{has_space, has_space_or_root, may_stand, count_beneath}
use Rattle.fk_scenario.specs.declared.scenario.scenario.Scenario.{Scenario}
use Rattle.fk_scenario.specs.Scenario.Jobs.{first_number, nester_from, is_beneath, has_nester, has_server, is_made, subtree_of, may_be_done, job_spec}
use Rattle.fk_scenario.specs.Scenario.Jobs.{job_after}
use Rattle.fk_scenario.specs.Scenario.Jobs.{jobs_from}
use Rattle.fk_scenario.specs.Scenario.Kept.{KeepsScenario}
use Rattle.fk_store.specs.Store.World.{first_world}
use Rattle.laws_moves.proofs.InMachine.validity.Edits.{outline-edited}
use Rattle.laws_moves.proofs.InMachine.safety.Safe.{IsSafe, AreSafe}
use Rattle.laws_moves.proofs.InMachine.safety.Staying.{same_birth, each}
use Rattle.fk_boot.specs.FirstWorld.{zero_pages, program_pages, words_of_program, space_itself, space_changes, served_ports, object_changes, aim_changes}
use Rattle.fk_boot.specs.FirstWorld.{porter_changes, booted}
use Rattle.fk_boot.specs.MadeSoFar.{HasSpaces}
use Rattle.fk_boot.proofs.Changes.{apply_all-append}
use Rattle.fk_boot.proofs.MadeSoFar.{first-stands, entry-stands}
use Rattle.fk_boot.proofs.Walks.{no-slots, last, made-space}
use Rattle.fk_boot.proofs.validity.Whole.{boot-safe, booted-valid}
use Rattle.laws_house.specs.Laws.{IsUnserved}
use Rattle.fk_boot.proofs.validity.Grounds.{is_porters, is_servers, Ground, booted-ground}
use Rattle.fk_boot.proofs.validity.Jobs.{booted_nester, nests, serves, IsAsked, all_asked}

-- ---- the first world

-- no porter and no served port lies in what a job saves
abbrev pub IsApart : World → JobSpec → Type 0
IsApart w (specs_of.Checkpoint moment birth path slot image) = (nester : Path) → birth_at w nester ≡ Some birth → IsUnserved w nester slot
IsApart w (specs_of.Restore moment birth slot image bind) = Unit {0}

off_unless : (b : Bool) → (b ≡ true → ⊥) → b ≡ false
off_unless true h = absurd (h refl)
off_unless false h = refl

beneath_asked : (s : Scenario) → KeepsScenario s → (birth : ℕ) (path : List ℕ) (slot : ℕ)
    → nester_from (first_number s.spaces) s.spaces path ≡ Some birth → has_nester s.spaces (path ++ slot ∷ []) ≡ false
    → has_server s.servers (path ++ slot ∷ []) ≡ false → (nester : Path) → birth_at (booted s) nester ≡ Some birth → IsUnserved (booted s) nester slot
beneath_asked s keeps birth path slot named nesters ports nester born = record {
  no_porter = λ k q. off_unless (holds is_native ((booted s).body (k ∷ (q ++ slot ∷ nester)))) (λ there.
      (let yes = nests s.spaces (path ++ slot ∷ []) q k (subst (λ (y : Path). is_porters s.spaces y ≡ true) (place k q)
      (ground.porters (k ∷ (q ++ slot ∷ nester)) there)) in
      let clash = sym yes ∙ nesters in cc));
  unserved = λ k q. off_unless (holds is_served ((booted s).body (k ∷ (q ++ slot ∷ nester)))) (λ there.
      (let yes = serves s.servers (path ++ slot ∷ []) q k (subst (λ (y : Path). is_servers (served_ports s.servers) y ≡ true) (place k q)
      (ground.served (k ∷ (q ++ slot ∷ nester)) there)) in
      let clash = sym yes ∙ ports in cc));
}
  where
    ground : Ground s (booted s)
    ground = booted-ground s keeps

    same : nester ≡ reverse path
    same = (booted-valid s keeps).consistent.apart nester (reverse path) birth born (booted_nester s keeps path birth named)

    place : (k : ℕ) (q : Path) → ◌≡◌ {A = Path} (k ∷ (q ++ slot ∷ nester)) (k ∷ (q ++ reverse (path ++ slot ∷ [])))
    place k q = ap (λ (x : Path). k ∷ (q ++ x)) (ap (λ (x : Path). slot ∷ x) same ∙ sym (reverse-append path (slot ∷ [])))

one_apart : (s : Scenario) → KeepsScenario s → (spec : JobSpec) → IsAsked s.spaces s.servers spec → IsApart (booted s) spec
one_apart s keeps (specs_of.Checkpoint moment birth path slot image) asked = beneath_asked s keeps birth path slot asked.0 asked.1 asked.2
one_apart s keeps (specs_of.Restore moment birth slot image bind) asked = tt

each_apart : (s : Scenario) → KeepsScenario s → (jobs : List JobSpec) → All (IsAsked s.spaces s.servers) jobs → All (IsApart (booted s)) jobs
each_apart s keeps [] asked = All-nil (IsApart (booted s))
each_apart s keeps (job ∷ jobs) asked =
    All-cons (IsApart (booted s)) job jobs (one_apart s keeps job (All-head (IsAsked s.spaces s.servers) job jobs asked))
    (each_apart s keeps jobs (All-tail (IsAsked s.spaces s.servers) job jobs asked))

pub jobs_apart : (s : Scenario) → KeepsScenario s → All (IsApart (booted s)) s.jobs
jobs_apart s keeps = each_apart s keeps s.jobs
    (all_asked s.spaces s.servers [] keeps.asked.0 s.jobs keeps.asked.1 (All-nil (IsAsked s.spaces s.servers)))
