-- Transparency, entry by entry of a scenario's jobs.
use Rattle.std.proofs.Common.{◌≡◌, ℕ, zero, suc, ◌<◌, Bool, true, false, cond, List, [], ◌∷◌, ◌++◌, append_assoc, append-nil, take, drop, Option, Some, None}
use Rattle.std.proofs.Common.{option_map, refl, ap, subst, ◌∙◌, arith}
use Rattle.std.specs.List.{slice_get}
use Rattle.fk_model.specs.declared.job.JobSpec.{JobSpec}
use Rattle.fk_model.specs.declared.job.JobSpec.TheVariants as specs_of
use Rattle.fk_image.specs.declared.image.image.Image.{Image}
use Rattle.fk_image.specs.Image.Valid.{is_valid}
use Rattle.laws_checkpoint.specs.Checkpoint as checkpoints
use Rattle.laws_checkpoint.specs.Checkpoint.End.{Done}
use Rattle.laws_restore.specs.Restore.Restore as restores
use Rattle.laws_restore.specs.Restore.Restore.State.{Makes}
use Rattle.laws_runs.specs.Cores.{JobEnd}
use Rattle.laws_runs.specs.Cores.JobEnd.{Worked, Idle}
use Rattle.laws_house.specs.Houses.{Job, State, End, image_made, sourced, valid_one, house, maker_from, source_of, job_of, given_first, jobs_from, jobs_of}
use Rattle.laws_house.specs.Houses.Task.{Restore}
use Rattle.laws_house.specs.Houses.State.{Restoring}
use Rattle.laws_house.specs.Houses.End.{Checked, Restored}
use Rattle.laws_house.proofs.House.{valid_is}
use Rattle.laws_first.specs.Entries.{given_at, IsFrom, EntriesAreSaved, EntriesAreMade, EntriesGoOn, EntriesArePlain}
use Rattle.laws_first.proofs.Plain.{saved_is_plain}
use Rattle.laws_first.specs.Entries.IsFrom.{Made, Given}

-- ---- the job of an entry

at : (before specs : List JobSpec) (images : List (Option Image)) (index : ℕ) (spec : JobSpec) → slice_get specs index ≡ Some spec →
    slice_get (jobs_from before specs images) index ≡ Some (job_of (before ++ take index specs) spec (given_at index images))
unfolding jobs_from
at before [] images index spec got = cc
at before (s ∷ ss) images zero spec got =
    let same : s ≡ spec = cc in
    rw append-nil (ap (λ (x : JobSpec). Some (job_of before x (given_first images))) same)
at before (s ∷ ss) images (suc index) spec got =
    at (before ++ s ∷ []) ss (drop 1 images) index spec got
    ∙ ap (λ (b : List JobSpec). Some (job_of b spec (given_at index (drop 1 images)))) (append_assoc before (s ∷ []) (take index ss))

-- ---- its image

image_there : (slot : ℕ) (bind : List (ℕ × ℕ)) (o : Option Image) (s : State) → option_map (λ image. Restoring slot bind image Makes) o ≡ Some s
    → (image : Image) × (o ≡ Some image)
image_there slot bind None s e = absurd (cc)
image_there slot bind (Some image) s e = (image, refl)

from_source : (o : Option Image) (image : Image) → valid_one o ≡ Some image → o ≡ Some image
from_source None image e = absurd (cc)
from_source (Some found) image e = by (is_valid found) e
  where
    by : (t : Bool) → cond t (Some found) None ≡ Some image → Some found ≡ Some image
    by true e = e
    by false e = absurd (cc)

made_by : (o : Option (JobEnd End)) (image : Image) → image_made o ≡ Some image
    → (hold : ℕ) × (release : ℕ) × (o ≡ Some (Worked (Checked (Done image)) hold release))
made_by None image e = absurd (cc)
made_by (Some (Worked (Checked (Done found)) hold release)) image e =
    let same : found ≡ image = cc in
    (hold, release, ap (λ (x : Image). Some (Worked (Checked (Done x)) hold release)) same)
made_by (Some (Worked (Checked checkpoints.Gone) hold release)) image e = absurd (cc)
made_by (Some (Worked (Checked (checkpoints.Foreign place)) hold release)) image e = absurd (cc)
made_by (Some (Worked (Restored end) hold release)) image e = absurd (cc)
made_by (Some (Idle why)) image e = absurd (cc)

got_of_first : {A : Type 0} (xs : List A) (n i : ℕ) (z : A) → slice_get (take n xs) i ≡ Some z → (i < n) × (slice_get xs i ≡ Some z)
got_of_first [] zero i z e = absurd (cc)
got_of_first [] (suc n) i z e = absurd (cc)
got_of_first (x ∷ xs) zero i z e = absurd (cc)
got_of_first (x ∷ xs) (suc n) zero z e = (omega arith, e)
got_of_first (x ∷ xs) (suc n) (suc i) z e = let rest = got_of_first xs n i z e in let low = rest.0 in (omega (arith, low), rest.1)

comes_from : (specs : List JobSpec) (images : List (Option Image)) (ends : List (JobEnd End)) (index : ℕ) (name : List ℕ) (image : Image) →
    sourced (take index ends) (source_of (maker_from 0 (take index specs) name) (given_at index images)) ≡ Some image
    → IsFrom specs images ends index name image
comes_from specs images ends index name image got = by (maker_from 0 (take index specs) name) refl got
  where
    by : (o : Option ℕ) → maker_from 0 (take index specs) name ≡ o → sourced (take index ends) (source_of o (given_at index images)) ≡ Some image
        → IsFrom specs images ends index name image
    by None is got = Given is got
    by (Some from) is got =
        let made = made_by (slice_get (take index ends) from) image got in
        let there = got_of_first ends index from (Worked (Checked (Done image)) made.0 made.1) made.2 in
        Made from made.0 made.1 is there.0 there.1

-- ---- the sentences

pub entries_are_saved : {V : Type 0} → EntriesAreSaved V
entries_are_saved specs images servers first c past run has index moment birth path slot name image hold release got ended =
    has.checkpointed.saves index (job_of (take index specs) (specs_of.Checkpoint moment birth path slot name) (given_at index images)) slot hold release image
    (at [] specs images index (specs_of.Checkpoint moment birth path slot name) got) refl ended

pub entries_are_made : {V : Type 0} → EntriesAreMade V
entries_are_made {V = V} specs images servers first c past run has index moment birth slot name bind make release got ended =
    let spec = specs_of.Restore moment birth slot name bind in
    let source = source_of (maker_from 0 (take index specs) name) (given_at index images) in
    let its = at [] specs images index spec got in
    let end = has.ended index (Worked (Restored restores.Done) make release) ended in
    let same : end.0 ≡ job_of (take index specs) spec (given_at index images) = (let one = end.1 in cc) in
    let begun = end.2 in
    let starts = subst (λ (j : Job). (house (jobs_of specs images) servers).begins j (take index c.ends) ≡ Some begun.0) same begun.1 in
    let there = image_there slot bind (valid_one (sourced (take index c.ends) source)) begun.0 starts in (
      there.0,
      comes_from specs images c.ends index name there.0 (from_source (sourced (take index c.ends) source) there.0 there.1),
      valid_is (sourced (take index c.ends) source) there.0 there.1,
      has.restored.makes index (job_of (take index specs) spec (given_at index images)) slot make release bind source there.0 its refl there.1 ended,
    )

pub entries_go_on : {V : Type 0} → EntriesGoOn V
entries_go_on specs images servers first c past run has from index moment birth path slot made later other place name bind image hold release make done
    saved ended restored remade maker before =
    let spec = specs_of.Checkpoint moment birth path slot made in
    let again = specs_of.Restore later other place name bind in
    has.goes_on_again from index (job_of (take from specs) spec (given_at from images)) (job_of (take index specs) again (given_at index images))
    slot place hold release make done bind image (at [] specs images from spec saved) refl ended (at [] specs images index again restored)
    (ap (λ (o : Option ℕ). Restore place bind (source_of o (given_at index images))) maker) remade before

pub entries_are_plain : {V : Type 0} → EntriesArePlain V
entries_are_plain specs images servers first c past run grounded index moment birth path slot name image hold release got ended nester named =
    saved_is_plain (jobs_of specs images) servers first c past run grounded index
    (job_of (take index specs) (specs_of.Checkpoint moment birth path slot name) (given_at index images)) slot hold release image
    (at [] specs images index (specs_of.Checkpoint moment birth path slot name) got) refl ended nester named
