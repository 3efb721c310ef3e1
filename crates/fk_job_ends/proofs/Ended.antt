-- What a report tells of a job's end is how it has ended in the run's last core.
use Rattle.std.proofs.Common.{◌≡◌, ℕ, zero, suc, ◌-◌, List, [], ◌∷◌, ◌++◌, map, length, replicate, Option, Some, None, refl, sym, ap, ◌∙◌}
use Rattle.std.specs.List.{slice_get}
use Rattle.fk_image.specs.declared.image.image.Image.{Image}
use Rattle.fk_report.specs.declared.job_end.JobEnd.{JobEnd}
use Rattle.fk_report.specs.declared.job_end.JobEnd.TheVariants as told
use Rattle.fk_job_ends.specs.Ends.{told_of, told_in}
use Rattle.laws_checkpoint.specs.Checkpoint as checkpoints
use Rattle.laws_restore.specs.Restore.Restore as restores
use Rattle.laws_house.specs.Houses.{End}
use Rattle.laws_house.specs.Houses.End.{Checked, Restored}
use Rattle.laws_runs.specs.Cores as runs
use Rattle.laws_runs.specs.Cores.JobEnd.{Worked, Idle}
use Rattle.laws_runs.specs.Cores.Unmoved.{NoImage, Dead}

-- behind those that have ended nothing is told
none-told : (n index : ℕ) (end : JobEnd) (none : Option JobEnd) → none ≡ None → slice_get (replicate n none) index ≡ Some (Some end) → ⊥
none-told zero index end none is got = cc
none-told (suc n) zero end none is got = cc
none-told (suc n) (suc index) end none is got = none-told n index end none is got

-- what is told at a place is told of the end there
told-at : (ends : List (runs.JobEnd End)) (more : List (Option JobEnd)) (index : ℕ) (end : JobEnd)
    → ((k : ℕ) → slice_get more k ≡ Some (Some end) → ⊥)
    → slice_get (map (λ e. Some (told_of e)) ends ++ more) index ≡ Some (Some end) → (e : runs.JobEnd End) × (slice_get ends index ≡ Some e) × (told_of e ≡ end)
told-at [] more index end none got = absurd (none index got)
told-at (e ∷ es) more zero end none got = (e, refl, (let same : Some (Some (told_of e)) ≡ Some (Some end) = got in cc))
told-at (e ∷ es) more (suc index) end none got = told-at es more index end none got

pub told-end : (count : ℕ) (ends : List (runs.JobEnd End)) (index : ℕ) (end : JobEnd) → slice_get (told_in count ends) index ≡ Some (Some end)
    → (e : runs.JobEnd End) × (slice_get ends index ≡ Some e) × (told_of e ≡ end)
told-end count ends index end got =
    told-at ends (replicate (count - length ends) None) index end (λ k. none-told (count - length ends) k end None refl) got

-- ---- what is told as done

pub is-saved : (e : runs.JobEnd End) (hold release : ℕ) (image : Image) → told_of e ≡ told.Checkpointed hold release image
    → e ≡ Worked (Checked (checkpoints.Done image)) hold release
is-saved (Worked (Checked checkpoints.Gone) begun last) hold release image is = absurd (cc)
is-saved (Worked (Checked (checkpoints.Foreign place)) begun last) hold release image is = absurd (cc)
is-saved (Worked (Checked (checkpoints.Done made)) begun last) hold release image is =
    let a : begun ≡ hold = cc in let b : last ≡ release = cc in let c : made ≡ image = cc in rw (a, b, c) refl
is-saved (Worked (Restored restores.Done) begun last) hold release image is = absurd (cc)
is-saved (Worked (Restored restores.Occupied) begun last) hold release image is = absurd (cc)
is-saved (Worked (Restored (restores.NoPort port)) begun last) hold release image is = absurd (cc)
is-saved (Idle NoImage) hold release image is = absurd (cc)
is-saved (Idle Dead) hold release image is = absurd (cc)

pub is-made : (e : runs.JobEnd End) (make release : ℕ) → told_of e ≡ told.Restored make release → e ≡ Worked (Restored restores.Done) make release
is-made (Worked (Checked checkpoints.Gone) begun last) make release is = absurd (cc)
is-made (Worked (Checked (checkpoints.Foreign place)) begun last) make release is = absurd (cc)
is-made (Worked (Checked (checkpoints.Done made)) begun last) make release is = absurd (cc)
is-made (Worked (Restored restores.Done) begun last) make release is =
    let a : begun ≡ make = cc in let b : last ≡ release = cc in rw (a, b) refl
is-made (Worked (Restored restores.Occupied) begun last) make release is = absurd (cc)
is-made (Worked (Restored (restores.NoPort port)) begun last) make release is = absurd (cc)
is-made (Idle NoImage) make release is = absurd (cc)
is-made (Idle Dead) make release is = absurd (cc)
