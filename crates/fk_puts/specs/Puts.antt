-- What a command puts on the shelf.
use Rattle.std.specs.Prelude.{◌≡◌, ◌<◌, ◌⊎◌, ⊤, ℕ, ◌+◌, List, [], ◌∷◌, get_or, Option, Some, None, Ok}
use Rattle.std.specs.List.{slice_get}
use Rattle.fk_causes.specs.Shelf.{FileMap, HasAt, KeepsOthers}
use Rattle.fk_commands.specs.declared.outcome.Report.{Report}
use Rattle.fk_commands.specs.Files.{image_name, record_name, trace_name}
use Rattle.fk_image.specs.declared.image.image.Image.{Image}
use Rattle.fk_image.specs.Format.Reading.{image_reading}
use Rattle.fk_model.specs.declared.moves.Move.{Move}
use Rattle.fk_report.specs.Jobs.{end_in}
use Rattle.fk_report.specs.declared.job_end.JobEnd.{JobEnd}
use Rattle.fk_report.specs.declared.job_end.JobEnd.TheVariants.{Checkpointed}
use Rattle.fk_words.specs.Commands.{Files, NoFiles, RunFiles, RecordFiles}
use Rattle.fk_trace_text.specs.Trace.{trace_text}

-- ---- one file

-- a file has these bytes now, and all others are as before
abbrev pub IsPut : Option FileMap → List ℕ → List ℕ → Option FileMap → Type 0
IsPut old name bytes new = HasAt new name (Some bytes) × KeepsOthers old new name

-- these are bytes, and are read as this image
abbrev pub SavesImage : List ℕ → Image → Type 0
SavesImage bytes image = ((i : ℕ) → get_or bytes i 0 < 256) × (image_reading bytes ≡ Ok image)

-- bytes that are read as this image (by fk_image::format::faultless these are its one spelling)
abbrev pub PutsImage : List ℕ → Image → Option FileMap → Option FileMap → Type 0
PutsImage name image old new = (bytes : List ℕ) × SavesImage bytes image × IsPut old (image_name name) bytes new

-- ---- of a whole run

-- the image of a job, where it has made one
abbrev pub PutsEnd : List ℕ → Option JobEnd → Option FileMap → Option FileMap → Type 0
PutsEnd name (Some (Checkpointed hold release image)) old new = PutsImage name image old new
PutsEnd name other old new = new ≡ old

-- the images of jobs with these names, one after the other, the first of which has this place
abbrev pub PutImages : List (Option JobEnd) → ℕ → List (List ℕ) → Option FileMap → Option FileMap → Type 0
PutImages ends place [] old new = new ≡ old
PutImages ends place (name ∷ names) old new =
    (between : Option FileMap) × PutsEnd name (end_in (slice_get ends place)) old between × PutImages ends (place + 1) names between new

-- the trace of a run, where it has a name
abbrev pub PutsTrace : Option (List ℕ) → List Move → Option FileMap → Option FileMap → Type 0
PutsTrace None history old new = new ≡ old
PutsTrace (Some name) history old new = IsPut old (trace_name name) (trace_text history) new

-- the images of its jobs in their order, and then its trace
abbrev pub PutsRun : Option (List ℕ) → Report → Option FileMap → Option FileMap → Type 0
PutsRun trace report old new =
    (between : Option FileMap) × PutImages report.jobs 0 report.images old between × PutsTrace trace report.history between new

-- the record of a run, where it was recorded
abbrev pub PutsRecord : List ℕ → Option (List ℕ) → Option FileMap → Option FileMap → Type 0
PutsRecord name None old new = new ≡ old
PutsRecord name (Some text) old new = IsPut old (record_name name) text new

-- and last its record, where it was recorded
abbrev pub PutsRecorded : List ℕ → Report → Option FileMap → Option FileMap → Type 0
PutsRecorded name report old new =
    (between : Option FileMap) × PutsRun (Some name) report old between × PutsRecord name report.recorded between new

-- ---- the same up to a put that failed: what was to be put before it is put, its own file is open, and all others are as before

-- of a job's image, where it has made one
abbrev pub OpensEnd : List ℕ → Option JobEnd → Option FileMap → Option FileMap → Type 0
OpensEnd name (Some (Checkpointed hold release image)) old new = KeepsOthers old new (image_name name)
OpensEnd name other old new = new ≡ old

-- of the images of jobs: that of the first, or, once that is put, of those behind it
abbrev pub PutSomeImages : List (Option JobEnd) → ℕ → List (List ℕ) → Option FileMap → Option FileMap → Type 0
PutSomeImages ends place [] old new = new ≡ old
PutSomeImages ends place (name ∷ names) old new = OpensEnd name (end_in (slice_get ends place)) old new
    ⊎ ((between : Option FileMap) × PutsEnd name (end_in (slice_get ends place)) old between × PutSomeImages ends (place + 1) names between new)

-- of the trace, where it has a name
abbrev pub KeepsButTrace : Option (List ℕ) → Option FileMap → Option FileMap → Type 0
KeepsButTrace None old new = new ≡ old
KeepsButTrace (Some name) old new = KeepsOthers old new (trace_name name)

-- of a run: of its images, or, once these are put, of its trace
abbrev pub PutsSome : Option (List ℕ) → Report → Option FileMap → Option FileMap → Type 0
PutsSome trace report old new = PutSomeImages report.jobs 0 report.images old new
    ⊎ ((between : Option FileMap) × PutImages report.jobs 0 report.images old between × KeepsButTrace trace between new)

-- of a run that was recorded: of what it leaves besides, or, once that is put, of its record
abbrev pub PutsSomeRecorded : List ℕ → Report → Option FileMap → Option FileMap → Type 0
PutsSomeRecorded name report old new = PutsSome (Some name) report old new
    ⊎ ((between : Option FileMap) × PutsRun (Some name) report old between × KeepsOthers between new (record_name name))

-- ---- of a command

-- what a command is to leave of its run is put; without a run nothing is
abbrev pub HasPut : Files → Option Report → Option FileMap → Option FileMap → Type 0
HasPut NoFiles report old new = new ≡ old
HasPut (RunFiles trace) None old new = new ≡ old
HasPut (RunFiles trace) (Some report) old new = PutsRun trace report old new
HasPut (RecordFiles name) None old new = new ≡ old
HasPut (RecordFiles name) (Some report) old new = PutsRecorded name report old new

-- or some of it, up to a put that failed
abbrev pub HasPutSome : Files → Option Report → Option FileMap → Option FileMap → Type 0
HasPutSome NoFiles report old new = new ≡ old
HasPutSome (RunFiles trace) None old new = new ≡ old
HasPutSome (RunFiles trace) (Some report) old new = PutsSome trace report old new
HasPutSome (RecordFiles name) None old new = new ≡ old
HasPutSome (RecordFiles name) (Some report) old new = PutsSomeRecorded name report old new

-- files with names of images, and the trace of a run
abbrev pub IsImageName : List ℕ → Type 0
IsImageName file = (name : List ℕ) × (file ≡ image_name name)

-- the file of the trace of a run, where it has a name
abbrev pub IsTraceName : Option (List ℕ) → List ℕ → Type 0
IsTraceName None file = ⊥
IsTraceName (Some name) file = file ≡ trace_name name

-- told files are as before but for such
abbrev pub KeepsBut : (List ℕ → Type 0) → Option FileMap → Option FileMap → Type 0
KeepsBut May None new = ⊤
KeepsBut May (Some old) None = ⊥
KeepsBut May (Some old) (Some new) = (file : List ℕ) → (May file → ⊥) → new file ≡ old file

-- all other files of the shelf are as before
abbrev pub KeepsFiles : Files → Option FileMap → Option FileMap → Type 0
KeepsFiles NoFiles old new = new ≡ old
KeepsFiles (RunFiles trace) old new = KeepsBut (λ file. IsImageName file ⊎ IsTraceName trace file) old new
KeepsFiles (RecordFiles name) old new = KeepsBut (λ file. (IsImageName file ⊎ IsTraceName (Some name) file) ⊎ (file ≡ record_name name)) old new
