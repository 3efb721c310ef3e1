-- Jobs that are planned, and those that are yet to be.
use Rattle.std.proofs.Common.{◌≡◌, ℕ, zero, suc, ◌+◌, List, [], ◌∷◌, ◌++◌, map, length, length-append, take, drop, Option, Some, None, refl, sym, ◌∙◌}
use Rattle.std.proofs.Common.{append-nil, arith}
use Rattle.std.specs.List.{slice_get}
use Rattle.std.proofs.lemmas.List.{append_assoc, map-append}
use Rattle.fk_image.specs.declared.image.image.Image.{Image}
use Rattle.fk_jobs.specs.declared.plan.PlannedJob.{PlannedJob}
use Rattle.fk_jobs.specs.Jobs.{job_of}
use Rattle.fk_model.specs.declared.job.JobSpec.{JobSpec}
use Rattle.fk_first.proofs.Places.{split, none-left}
use Rattle.laws_house.specs.Houses as houses
use Rattle.laws_house.specs.Houses.{given_first, jobs_from, jobs_of}

drop-suc : {X : Type 0} (n : ℕ) (xs : List X) → drop 1 (drop n xs) ≡ drop (suc n) xs
drop-suc zero xs = refl
drop-suc (suc n) [] = refl
drop-suc (suc n) (x ∷ xs) = drop-suc n xs

drop-one : {X : Type 0} (n : ℕ) (xs : List X) → drop 1 (drop n xs) ≡ drop (n + 1) xs
drop-one n xs = let more : n + 1 ≡ suc n = omega arith in rw more (drop-suc n xs)

module _ (jobs : List JobSpec) (images : List (Option Image)) where
  -- those that are planned, and those that are yet to be, are all
  abbrev pub IsWhole : List PlannedJob → Type 0
  IsWhole plans = map job_of plans ++ jobs_from (take (length plans) jobs) (drop (length plans) jobs) (drop (length plans) images) ≡ jobs_of jobs images

  pub planned-on : (plans : List PlannedJob) (plan : PlannedJob) (job : JobSpec) → slice_get jobs (length plans) ≡ Some job
      → job_of plan ≡ houses.job_of (take (length plans) jobs) job (given_first (drop (length plans) images)) → IsWhole plans → IsWhole (plans ++ plan ∷ [])
  unfolding jobs_from
  planned-on plans plan job got is whole =
      let n = length plans in
      let (left, right, within) = split jobs n job got in
      let long : length (plans ++ plan ∷ []) ≡ n + 1 = length-append plans (plan ∷ []) in
      let rest = jobs_from (take n jobs ++ job ∷ []) (drop (n + 1) jobs) (drop 1 (drop n images)) in
      let before : map job_of plans ++ (houses.job_of (take n jobs) job (given_first (drop n images)) ∷ rest) ≡ jobs_of jobs images = rw left at whole in
      let here : map job_of (plans ++ plan ∷ []) ≡ map job_of plans ++ job_of plan ∷ [] = map-append job_of plans (plan ∷ []) in
      let last : jobs_from (take (n + 1) jobs) (drop (n + 1) jobs) (drop (n + 1) images) ≡ rest = rw (right, ← drop-one n images) refl in
      rw (long, here, last, is) (append_assoc (map job_of plans) (houses.job_of (take n jobs) job (given_first (drop n images)) ∷ []) rest ∙ before)

  pub planned-all : (plans : List PlannedJob) → slice_get jobs (length plans) ≡ None → IsWhole plans → map job_of plans ≡ jobs_of jobs images
  unfolding jobs_from
  planned-all plans got whole =
      let left = none-left jobs (length plans) got in
      sym (append-nil (map job_of plans)) ∙ (rw left at whole)
