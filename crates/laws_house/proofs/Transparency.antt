-- All laws of the house, over one run.
use Rattle.std.proofs.Common.{◌≡◌, ℕ, zero, suc, List, [], ◌∷◌, ◌++◌, drop, Option, Some, subst}
use Rattle.std.specs.List.{slice_get, All}
use Rattle.std.proofs.lemmas.List.Elements.{All-head, All-tail}
use Rattle.fk_model.specs.declared.job.JobSpec.{JobSpec}
use Rattle.fk_model.specs.declared.job.JobSpec.TheVariants as specs_of
use Rattle.fk_image.specs.declared.image.image.Image.{Image}
use Rattle.laws_runs.proofs.Composing.{composed}
use Rattle.laws_runs.proofs.Ended.{ends_are_so}
use Rattle.laws_runs.proofs.Events.{its_events}
use Rattle.laws_runs.proofs.Seen.{run_goes_on}
use Rattle.laws_house.specs.Houses.{Job, house, job_of, given_first, jobs_from}
use Rattle.laws_house.specs.Laws.{NamesUsersSlots}
use Rattle.laws_house.specs.Transparency.{NamesSlots, JobsNameUsersSlots, RunsAreTransparent}
use Rattle.laws_house.proofs.House.{checkpoints_are_brief, restores_are_brief}
use Rattle.laws_house.proofs.House.{jobs_meet_contract, checkpoints_end_as_it_was, checkpoints_save, checkpoints_leave_the_rest, restores_make, saved_goes_on}
use Rattle.laws_house.proofs.Moving.{restores_leave_the_rest, jobs_are_ready, restores_end_so}
use Rattle.laws_house.proofs.Places.{checkpoints_move_so, restores_move_so, restores_want_an_image, restores_want_their_maker, jobs_end_clean}
use Rattle.laws_house.proofs.Places.{checkpoints_release}
use Rattle.laws_house.proofs.Once.{gone_at_once, occupied_at_once}

-- ---- a scenario's jobs

job_names : (before : List JobSpec) (s : JobSpec) (given : Option Image) → NamesSlots s → NamesUsersSlots (job_of before s given).task
job_names before (specs_of.Checkpoint moment nester path slot image) given names = names
job_names before (specs_of.Restore moment nester slot image bind) given names = names

jobs_name : (before specs : List JobSpec) (images : List (Option Image)) → All NamesSlots specs → (index : ℕ) (j : Job)
    → slice_get (jobs_from before specs images) index ≡ Some j → NamesUsersSlots j.task
unfolding jobs_from
jobs_name before [] images names index j got = cc
jobs_name before (s ∷ specs) images names zero j got =
    let same : job_of before s (given_first images) ≡ j = cc in
    subst (λ (i : Job). NamesUsersSlots i.task) same (job_names before s (given_first images) (All-head NamesSlots s specs names))
jobs_name before (s ∷ specs) images names (suc index) j got = jobs_name (before ++ s ∷ []) specs (drop 1 images) (All-tail NamesSlots s specs names) index j got

pub jobs_name_users_slots : JobsNameUsersSlots
jobs_name_users_slots specs images names index j got = jobs_name [] specs images names index j got

-- ---- the run

pub runs_transparent : {V : Type 0} → RunsAreTransparent V
runs_transparent jobs servers first c past run grounded = record {
  events = its_events (house jobs servers) first run;
  composed = composed (house jobs servers) first c past run grounded.users (jobs_meet_contract jobs servers grounded.slots) grounded.start grounded.few;
  ended = ends_are_so (house jobs servers) first c past run grounded.start;
  checkpointed = record {
    moves = checkpoints_move_so jobs servers first c past run grounded.start;
    at_once = gone_at_once jobs servers first c past run grounded;
    ends = checkpoints_end_as_it_was jobs servers first c past run grounded;
    releases = checkpoints_release jobs servers first c past run grounded;
    saves = checkpoints_save jobs servers first c past run grounded;
    leaves = checkpoints_leave_the_rest jobs servers first c past run grounded;
    brief = checkpoints_are_brief jobs servers first c past run grounded;
  };
  restored = record {
    wants = restores_want_an_image jobs servers first c past run grounded.start;
    wants_maker = restores_want_their_maker jobs servers first c past run grounded;
    moves = restores_move_so jobs servers first c past run grounded.start;
    at_once = occupied_at_once jobs servers first c past run grounded;
    ends = restores_end_so jobs servers first c past run grounded;
    makes = restores_make jobs servers first c past run grounded;
    leaves = restores_leave_the_rest jobs servers first c past run grounded;
    brief = restores_are_brief jobs servers first c past run grounded;
  };
  clean = jobs_end_clean jobs servers first c past run grounded;
  ready = jobs_are_ready jobs servers first c past run grounded;
  goes_on = run_goes_on (house jobs servers) first c past run grounded.users (jobs_meet_contract jobs servers grounded.slots) grounded.start grounded.few;
  goes_on_again = saved_goes_on jobs servers first c past run grounded;
}
