-- The jobs of a document, among its spaces and servers.
use Rattle.std.specs.Prelude.{ℕ, ◌+◌, Bool, true, not, ◌&&◌, ◌==◌, nat_eq, List, [], ◌∷◌, ◌++◌, length, Option, Some, None, Result, Ok, if◌then◌else◌}
use Rattle.std.specs.List.{list_any, starts_with}
use Rattle.std.specs.Str.{bytes_eq}
use Rattle.fk_model.specs.declared.job.JobSpec.{JobSpec}
use Rattle.fk_model.specs.declared.job.JobSpec.TheVariants.{Checkpoint, Restore}
use Rattle.fk_scenario.specs.declared.fields.fail.ScenarioError.{ScenarioError}
use Rattle.fk_scenario.specs.Fields.Gives.{◌>>=◌, or_rule, unless, placed}
use Rattle.fk_scenario.specs.Fields.Paths.{enclosing}
use Rattle.fk_scenario.specs.declared.entries.types.SpaceEntry.{SpaceEntry}
use Rattle.fk_scenario.specs.declared.entries.types.ServerEntry.{ServerEntry}
use Rattle.fk_scenario.specs.declared.entries.jobs.JobEntry.{JobEntry}
use Rattle.fk_scenario.specs.declared.entries.jobs.JobKind.{JobKind}
use Rattle.fk_scenario.specs.declared.entries.jobs.JobKind.TheVariants as kinds
pub use Rattle.fk_model.specs.Jobs.{makes_image}

-- spaces are numbered in the order of the file, the root as 0, and the first besides it as 1
abbrev pub first_number : List SpaceEntry → ℕ
first_number [] = 1
first_number (s ∷ ss) = if length s.path == 0 then 0 else 1

-- the number of the nester with a path, where the first of these spaces has number `n`
unfoldable pub nester_from : ℕ → List SpaceEntry → List ℕ → Option ℕ
nester_from n [] path = None
nester_from n (s ∷ ss) path = if bytes_eq s.path path && s.nester then Some n else nester_from (n + 1) ss path

-- a path is that of a space or lies beneath it
abbrev pub is_beneath : List ℕ → List ℕ → Bool
is_beneath space path = starts_with nat_eq path space

-- a nester lies in a subtree
abbrev pub has_nester : List SpaceEntry → List ℕ → Bool
has_nester spaces subtree = list_any (λ s. s.nester && is_beneath subtree s.path) spaces

-- the port of a server does
abbrev pub has_server : List ServerEntry → List ℕ → Bool
has_server servers subtree = list_any (λ s. is_beneath subtree (enclosing s.port)) servers

-- one of the jobs so far makes it
abbrev pub is_made : List JobSpec → List ℕ → Bool
is_made done image = list_any (makes_image image) done

-- the subtree of a job
abbrev pub subtree_of : JobEntry → List ℕ
subtree_of job = job.nester ++ job.slot ∷ []

-- a checkpoint may be made of a subtree without nesters and servers, under a name that no job before it makes; a restore always
abbrev pub may_be_done : List SpaceEntry → List ServerEntry → List JobSpec → JobEntry → JobKind → Bool
may_be_done spaces servers done job kinds.Checkpoint = not (has_nester spaces (subtree_of job)) && not (has_server servers (subtree_of job)) && not
    (is_made done job.image)
may_be_done spaces servers done job (kinds.Restore bind) = true

-- what a job is, whose nester has this number
abbrev pub job_spec : ℕ → JobEntry → JobKind → JobSpec
job_spec birth job kinds.Checkpoint = Checkpoint job.moment birth job.nester job.slot job.image
job_spec birth job (kinds.Restore bind) = Restore job.moment birth job.slot job.image bind

-- a job after those before it: its nester is there, and it may be done, else rule 10
unfoldable pub job_after : List SpaceEntry → List ServerEntry → List JobSpec → JobEntry → Result JobSpec ℕ
job_after spaces servers done job = do
  birth ← or_rule 10 (nester_from (first_number spaces) spaces job.nester)
  _ ← unless 10 (may_be_done spaces servers done job job.kind)
  Ok (job_spec birth job job.kind)

-- the jobs after those so far
unfoldable pub jobs_from : List SpaceEntry → List ServerEntry → List JobSpec → List JobEntry → Result (List JobSpec) ScenarioError
jobs_from spaces servers done [] = Ok done
jobs_from spaces servers done (j ∷ js) = placed 6 (length done) (job_after spaces servers done j) >>= λ job. jobs_from spaces servers (done ++ job ∷ []) js
