-- What a report says of jobs.
use Rattle.std.specs.Prelude.{ℕ, ◌+◌, Bool, true, false, List, [], ◌∷◌, ◌++◌, Option, Some, None, if◌then◌else◌, codes, decimal}
use Rattle.std.specs.List.{slice_get}
use Rattle.fk_model.specs.declared.job.JobSpec.{JobSpec}
use Rattle.fk_model.specs.declared.job.JobSpec.TheVariants.{Checkpoint, Restore}
use Rattle.fk_finish.specs.declared.place.Place.{Place}
use Rattle.fk_report.specs.Paths.{down_text}
use Rattle.fk_report.specs.declared.job_end.JobEnd.{JobEnd}
use Rattle.fk_report.specs.declared.job_end.JobEnd.TheVariants.{Checkpointed, Foreign, Dead, Restored, NoImage, Occupied, NoPort}

-- the places of its first move and its last
abbrev pub moves_text : List ℕ → ℕ → ℕ → List ℕ
moves_text first begun last = first ++ (decimal begun ++ (codes " release " ++ decimal last))

-- the first object by which a subtree isn't closed, by its whole path: the nester's, and from there down; and the field
abbrev pub place_text : List ℕ → Place → List ℕ
place_text nester place = codes " foreign " ++ (down_text nester ++ (down_text place.path ++ (codes " " ++ decimal place.field)))

-- the path of a checkpoint's nester; no line of a restore shows one
abbrev pub nester_of : JobSpec → List ℕ
nester_of (Checkpoint moment nester path slot image) = path
nester_of (Restore moment nester slot image bind) = []

abbrev pub kind_word : JobSpec → List ℕ
kind_word (Checkpoint moment nester path slot image) = codes "checkpoint"
kind_word (Restore moment nester slot image bind) = codes "restore"

abbrev pub end_text : List ℕ → JobEnd → List ℕ
end_text nester (Checkpointed hold release image) = moves_text (codes " done hold ") hold release
end_text nester (Foreign place hold release) = place_text nester place ++ moves_text (codes " hold ") hold release
end_text nester Dead = codes " dead"
end_text nester (Restored make release) = moves_text (codes " done make ") make release
end_text nester NoImage = codes " noimage"
end_text nester Occupied = codes " occupied"
end_text nester (NoPort port make release) = codes " noport " ++ (decimal port ++ moves_text (codes " make ") make release)

-- one that hasn't ended waits
abbrev pub fate_text : JobSpec → Option JobEnd → List ℕ
fate_text job None = codes " waiting\n"
fate_text job (Some end) = codes " " ++ (kind_word job ++ (end_text (nester_of job) end ++ codes "\n"))

-- how the job at a place has ended, if it is there and has
abbrev pub end_in : Option (Option JobEnd) → Option JobEnd
end_in None = None
end_in (Some end) = end

-- the line of the job at a place, of which the ends are told
abbrev pub job_line : List (Option JobEnd) → ℕ → JobSpec → List ℕ
job_line ends place job = codes "job " ++ (decimal place ++ fate_text job (end_in (slice_get ends place)))

-- the lines of jobs, the first of which has this place
unfoldable pub lines_from : List (Option JobEnd) → ℕ → List JobSpec → List ℕ
lines_from ends place [] = []
lines_from ends place (j ∷ js) = job_line ends place j ++ lines_from ends (place + 1) js

-- ---- refusals

-- every end but that a job is done
abbrev pub is_refused : Option JobEnd → Bool
is_refused None = false
is_refused (Some (Checkpointed hold release image)) = false
is_refused (Some (Foreign place hold release)) = true
is_refused (Some Dead) = true
is_refused (Some (Restored make release)) = false
is_refused (Some NoImage) = true
is_refused (Some Occupied) = true
is_refused (Some (NoPort port make release)) = true

-- the place of the first that was refused, where the first of these has this place
unfoldable pub refused_from : ℕ → List (Option JobEnd) → Option ℕ
refused_from place [] = None
refused_from place (end ∷ ends) = if is_refused end then Some place else refused_from (place + 1) ends
