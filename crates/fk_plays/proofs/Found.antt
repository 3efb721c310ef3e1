-- The images that are found so far, and those of the jobs that are left.
use Rattle.std.proofs.Common.{◌≡◌, ◌≤◌, ℕ, ◌+◌, Bool, true, false, List, [], ◌∷◌, ◌++◌, take, drop, Option, Some, None, Result, Ok, Err, IfErr, IsSome}
use Rattle.std.proofs.Common.{inl, inr, sym, subst, append-nil}
use Rattle.std.specs.Bool.{OnFalse}
use Rattle.std.specs.List.{slice_get}
use Rattle.std.proofs.lemmas.List.{append_assoc}
use Rattle.fk_causes.specs.Causes.{Rose}
use Rattle.fk_causes.specs.Shelf.{FileMap}
use Rattle.fk_commands.specs.declared.prepared.Prepared.{Prepared}
use Rattle.fk_commands.specs.declared.status.Status.{Status}
use Rattle.fk_commands.specs.Prepared.{IsRefusal, IsRefusedAt, IsCaused}
use Rattle.fk_commands.specs.Status.{was_cut_short, row_of, Progress, Words, Reading, Refusing, Writing, Finished}
use Rattle.fk_commands.specs.Status.{Failed, Nothing, Source, Sink, Shelf, Memory}
use Rattle.fk_image.specs.declared.image.image.Image.{Image}
use Rattle.fk_model.specs.declared.job.JobSpec.{JobSpec}
use Rattle.fk_commands.proofs.Rises.{rises}
use Rattle.fk_runs.proofs.Places.{split, none-left}
use Rattle.fk_plays.specs.Images.{needed, Finds, FindsImages, NeedImage, UnlessFailed}
use Rattle.fk_plays.specs.Images.FindsImages.{NoJob, Found, Refused, Later}

-- ---- refusals

-- one for a reason is one for whatever follows from it
pub refused-of : (P Q R : Type 0) → (Q → R) → (status : Status) → IsRefusal P Q status → IsRefusal P R status
refused-of P Q R f status h = by (row_of status).came (row_of status).failed h
  where
    caused : (failed : Failed) → IsCaused P Q failed → IsCaused P R failed
    caused Shelf h = f h
    caused Nothing h = h
    caused Source h = h
    caused Sink h = h
    caused Memory h = h

    by : (came : Progress) (failed : Failed) → IsRefusedAt P Q came failed → IsRefusedAt P R came failed
    by Words failed h = h
    by Reading failed h = caused failed h
    by Refusing failed h = caused failed h
    by Writing failed h = h
    by Finished failed h = h

pub unless-of : (P Q : Type 0) → (P → Q) → (status : Status) → UnlessFailed status P → UnlessFailed status Q
unless-of P Q f status h = by (was_cut_short status) h
  where
    by : (cut : Bool) → OnFalse cut P → OnFalse cut Q
    by true h = tt
    by false h = f h

-- one behind gets that didn't fail is one of all of them
pub refused-with : (old mid now : ℕ) (S : Type 0) → old ≤ mid → S → (r : Result Prepared Status) → IfErr r (IsRefusal ⊥ (Rose mid now))
    → IfErr r (IsRefusal ⊥ (Rose old now × S))
refused-with old mid now S later s (Ok done) h = h
refused-with old mid now S later s (Err status) h =
    refused-of ⊥ (Rose mid now) (Rose old now × S) (λ rose. (rises old mid now later rose, s)) status h

-- ---- jobs in order

-- what is found of jobs behind those whose images these are
abbrev pub behind : List (Option Image) → Result (List (Option Image)) Status → Result (List (Option Image)) Status
behind images (Ok more) = Ok (images ++ more)
behind images (Err status) = Err status

module _ (files : Option FileMap) (jobs : List JobSpec) where
  -- whatever is found of the jobs from a place on, with these images before, is found of all
  abbrev pub FindsFrom : ℕ → List (Option Image) → Type 0
  FindsFrom n images = (rest : Result (List (Option Image)) Status) → FindsImages files (take n jobs) (drop n jobs) rest
      → FindsImages files [] jobs (behind images rest)

  abbrev pub NeedsFrom : ℕ → Type 0
  NeedsFrom n = NeedImage (take n jobs) (drop n jobs) → NeedImage [] jobs

  pub finds-begun : FindsFrom 0 []
  finds-begun (Ok more) finds = finds
  finds-begun (Err status) finds = finds

  pub finds-on : (n : ℕ) (images : List (Option Image)) (job : JobSpec) (image : Option Image) → slice_get jobs n ≡ Some job
      → Finds files (needed (take n jobs) job) (Ok image) → FindsFrom n images → FindsFrom (n + 1) (images ++ image ∷ [])
  finds-on n images job image got one from rest more =
      let (left, right, within) = split jobs n job got in
      by left (subst (λ before. FindsImages files before (drop (n + 1) jobs) rest) right more)
    where
      by : drop n jobs ≡ job ∷ drop (n + 1) jobs → FindsImages files (take n jobs ++ job ∷ []) (drop (n + 1) jobs) rest
          → FindsImages files [] jobs (behind (images ++ image ∷ []) rest)
      by left more = last rest left more
        where
          last : (rest : Result (List (Option Image)) Status) → drop n jobs ≡ job ∷ drop (n + 1) jobs
              → FindsImages files (take n jobs ++ job ∷ []) (drop (n + 1) jobs) rest → FindsImages files [] jobs (behind (images ++ image ∷ []) rest)
          last (Ok rest) left more =
              subst (λ all. FindsImages files [] jobs (Ok all)) (sym (append_assoc images (image ∷ []) rest))
              (from (Ok (image ∷ rest)) (rw left (Found (take n jobs) job (drop (n + 1) jobs) image rest one more)))
          last (Err status) left more = from (Err status) (rw left (Later (take n jobs) job (drop (n + 1) jobs) image status one more))

  pub finds-refused : (n : ℕ) (images : List (Option Image)) (job : JobSpec) (status : Status) → slice_get jobs n ≡ Some job
      → FindsFrom n images → Finds files (needed (take n jobs) job) (Err status) → FindsImages files [] jobs (Err status)
  finds-refused n images job status got from one =
      from (Err status) (rw (split jobs n job got).0 (Refused (take n jobs) job (drop (n + 1) jobs) status one))

  pub finds-all : (n : ℕ) (images : List (Option Image)) → slice_get jobs n ≡ None → FindsFrom n images → FindsImages files [] jobs (Ok images)
  finds-all n images got from =
      subst (λ all. FindsImages files [] jobs (Ok all)) (append-nil images) (from (Ok []) (rw (none-left jobs n got) (NoJob (take n jobs))))

  pub needs-on : (n : ℕ) (job : JobSpec) → slice_get jobs n ≡ Some job → NeedsFrom n → NeedsFrom (n + 1)
  needs-on n job got from more =
      let (left, right, within) = split jobs n job got in
      from (rw left (inr (subst (λ before. NeedImage before (drop (n + 1) jobs)) right more)))

  pub needs-one : (n : ℕ) (job : JobSpec) → slice_get jobs n ≡ Some job → NeedsFrom n → IsSome (needed (take n jobs) job) → NeedImage [] jobs
  needs-one n job got from one = from (rw (split jobs n job got).0 (inl one))
