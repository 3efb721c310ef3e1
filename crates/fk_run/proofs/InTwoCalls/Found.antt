-- What a run has found on the shelf for a job.
use Rattle.std.proofs.Common.{◌≡◌, ℕ, zero, suc, List, [], ◌∷◌, ◌++◌, append_assoc, append-nil, take, Option, Some, None, Result, Ok, refl, sym, ap, ◌∙◌, subst}
use Rattle.std.specs.List.{slice_get}
use Rattle.fk_causes.specs.Shelf.{FileMap}
use Rattle.fk_commands.specs.declared.status.Status.{Status}
use Rattle.fk_commands.specs.Files.{image_name}
use Rattle.fk_image.specs.declared.image.image.Image.{Image}
use Rattle.fk_image.specs.Format.Reading.{image_reading}
use Rattle.fk_model.specs.declared.job.JobSpec.{JobSpec}
use Rattle.fk_model.specs.declared.job.JobSpec.TheVariants.{Restore}
use Rattle.fk_plays.specs.Images.{unmade, needed, read_bytes, read_file, Finds, FindsImages}
use Rattle.fk_plays.specs.Images.FindsImages.{NoJob, Found, Refused, Later}
use Rattle.fk_plays.specs.Made.{Images}
use Rattle.fk_plays.specs.Entries.{given_at}
use Rattle.fk_puts.specs.Puts.{SavesImage}
use Rattle.laws_house.specs.Houses.{maker_from}

-- what is found for the job with an index
found_at : (files : Option FileMap) (before jobs : List JobSpec) (found : Result Images Status) (images : Images) (index : ℕ) (job : JobSpec)
    → FindsImages files before jobs found → found ≡ Ok images → slice_get jobs index ≡ Some job
    → Finds files (needed (before ++ take index jobs) job) (Ok (given_at index images))
found_at files _ _ _ images index job (NoJob before) e at = absurd (cc)
found_at files _ _ _ images zero job (Found before first jobs image more one rest) e at =
    let same : first ≡ job = cc in
    let all : image ∷ more ≡ images = cc in
    subst (λ (b : List JobSpec). Finds files (needed b job) (Ok (given_at 0 images))) (sym (append-nil before))
    (subst (λ (xs : Images). Finds files (needed before job) (Ok (given_at 0 xs))) all
    (subst (λ (j : JobSpec). Finds files (needed before j) (Ok image)) same one))
found_at files _ _ _ images (suc index) job (Found before first jobs image more one rest) e at =
    let all : image ∷ more ≡ images = cc in
    subst (λ (xs : Images). Finds files (needed (before ++ first ∷ take index jobs) job) (Ok (given_at (suc index) xs))) all
    (subst (λ (b : List JobSpec). Finds files (needed b job) (Ok (given_at index more))) (append_assoc before (first ∷ []) (take index jobs))
    (found_at files (before ++ first ∷ []) jobs (Ok more) more index job rest refl at))
found_at files _ _ _ images index job (Refused before first jobs status one) e at = absurd (cc)
found_at files _ _ _ images index job (Later before first jobs image status one rest) e at = absurd (cc)

read_one : (name bytes : List ℕ) (image given : Image) → image_reading bytes ≡ Ok image → Ok (Some given) ≡ read_file name (Some bytes) → given ≡ image
read_one name bytes image given reading found = let both = found ∙ ap (read_bytes name) reading in cc

-- the image that is given for a restore is the one that the bytes of its file are read as
pub given_is : (files : FileMap) (jobs : List JobSpec) (images : Images) (index moment birth slot : ℕ) (name : List ℕ) (bind : List (ℕ × ℕ)) (bytes : List ℕ)
    (image given : Image) → FindsImages (Some files) [] jobs (Ok images) → slice_get jobs index ≡ Some (Restore moment birth slot name bind)
    → maker_from 0 (take index jobs) name ≡ None → given_at index images ≡ Some given → files (image_name name) ≡ Some bytes → SavesImage bytes image
    → given ≡ image
given_is files jobs images index moment birth slot name bind bytes image given finds entry none is has saved =
    let found : Finds (Some files) (Some name) (Ok (given_at index images)) =
    subst (λ (o : Option ℕ). Finds (Some files) (unmade name o) (Ok (given_at index images))) none
    (found_at (Some files) [] jobs (Ok images) images index (Restore moment birth slot name bind) finds refl entry) in
    read_one name bytes image given saved.1
    (ap Ok (sym is) ∙ (found.2 ∙ ap (read_file name) (sym found.1 ∙ has)))
