-- What isn't put leaves all as it was.
use Rattle.std.proofs.Common.{ℕ, List, Option, Some, None, refl}
use Rattle.fk_causes.specs.Shelf.{FileMap, KeepsOthers}
use Rattle.fk_commands.specs.Files.{image_name}
use Rattle.fk_report.specs.declared.job_end.JobEnd.{JobEnd}
use Rattle.fk_report.specs.declared.job_end.JobEnd.TheVariants.{Checkpointed}
use Rattle.fk_puts.specs.Puts.{OpensEnd}

-- files that aren't touched are as before
pub keeps_same : (files : Option FileMap) (name : List ℕ) → KeepsOthers files files name
keeps_same None name = tt
keeps_same (Some files) name = λ other differs. refl

-- nor is that of a job
pub opens_same : (name : List ℕ) (end : Option JobEnd) (files : Option FileMap) → OpensEnd name end files files
opens_same name (Some (Checkpointed hold release image)) files = keeps_same files (image_name name)
opens_same name other files = refl
