-- So the jobs of a scenario save what users alone lie in.
use Rattle.std.proofs.Common.{◌≡◌, ℕ, zero, suc, List, [], ◌∷◌, ◌++◌, drop, Option, Some, sym, subst}
use Rattle.std.specs.List.{slice_get, All}
use Rattle.std.proofs.lemmas.List.Elements.{All-head, All-tail}
use Rattle.fk_model.specs.declared.job.JobSpec.{JobSpec}
use Rattle.fk_model.specs.declared.job.JobSpec.TheVariants as specs_of
use Rattle.fk_model.specs.Places.{Path}
use Rattle.fk_model.specs.World.{World}
use Rattle.fk_model.specs.Valid.{birth_at}
use Rattle.fk_image.specs.declared.image.image.Image.{Image}
use Rattle.fk_boot.specs.FirstWorld.{booted}
use Rattle.laws_house.specs.Houses.{Job, job_of, given_first, jobs_from}
use Rattle.laws_house.specs.Houses.Task.{Checkpoint}
use Rattle.laws_house.specs.Laws.{IsUnserved}
use Rattle.laws_first.specs.Users.{ScenarioJobsSaveUsersAlone}
use Rattle.laws_first.proofs.Alone.{IsApart, jobs_apart}

job_apart : (w : World) (before : List JobSpec) (spec : JobSpec) (given : Option Image) (slot : ℕ) → IsApart w spec
    → (job_of before spec given).task ≡ Checkpoint slot → (nester : Path) → birth_at w nester ≡ Some (job_of before spec given).nester
    → IsUnserved w nester slot
job_apart w before (specs_of.Checkpoint moment birth path own image) given slot apart is nester born =
    let same : own ≡ slot = cc in subst (λ k. IsUnserved w nester k) same (apart nester born)
job_apart w before (specs_of.Restore moment birth own image bind) given slot apart is nester born = absurd (cc)

each_apart : (w : World) (before specs : List JobSpec) (images : List (Option Image)) → All (IsApart w) specs → (index : ℕ) (j : Job) (slot : ℕ)
    → slice_get (jobs_from before specs images) index ≡ Some j → j.task ≡ Checkpoint slot → (nester : Path) → birth_at w nester ≡ Some j.nester
    → IsUnserved w nester slot
unfolding jobs_from
each_apart w before [] images apart index j slot got is nester born = cc
each_apart w before (spec ∷ specs) images apart zero j slot got is nester born =
    let same : job_of before spec (given_first images) ≡ j = cc in
    job_apart w before spec (given_first images) slot (All-head (IsApart w) spec specs apart)
    (subst (λ (i : Job). i.task ≡ Checkpoint slot) (sym same) is) nester (subst (λ (i : Job). birth_at w nester ≡ Some i.nester) (sym same) born)
each_apart w before (spec ∷ specs) images apart (suc index) j slot got is nester born =
    each_apart w (before ++ spec ∷ []) specs (drop 1 images) (All-tail (IsApart w) spec specs apart) index j slot got is nester born

pub jobs_save_users_alone : ScenarioJobsSaveUsersAlone
jobs_save_users_alone s keeps images index j slot got is nester born =
    each_apart (booted s) [] s.jobs images (jobs_apart s keeps) index j slot got is nester born
