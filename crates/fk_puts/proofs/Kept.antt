-- What is put leaves all other files.
use Rattle.std.proofs.Common.{◌≡◌, ◌≢◌, ◌⊎◌, ℕ, ◌+◌, List, [], ◌∷◌, Option, Some, None, Result, Ok, Err, OnOk, OnErr, inl, inr, refl, sym, subst, ◌∙◌}
use Rattle.std.specs.List.{slice_get}
use Rattle.fk_causes.specs.declared.shelf.ShelfFail.{ShelfFail}
use Rattle.fk_causes.specs.Shelf.{FileMap, KeepsOthers}
use Rattle.fk_commands.specs.declared.outcome.Report.{Report}
use Rattle.fk_commands.specs.Files.{image_name, record_name, trace_name}
use Rattle.fk_report.specs.Jobs.{end_in}
use Rattle.fk_report.specs.declared.job_end.JobEnd.{JobEnd}
use Rattle.fk_report.specs.declared.job_end.JobEnd.TheVariants.{Checkpointed}
use Rattle.fk_model.specs.declared.moves.Move.{Move}
use Rattle.fk_words.specs.Commands.{Files, NoFiles, RunFiles, RecordFiles}
use Rattle.fk_puts.specs.Puts.{IsImageName, IsTraceName, KeepsBut, KeepsButTrace, KeepsFiles, OpensEnd, PutImages, PutSomeImages, PutsEnd, PutsTrace, PutsRun}
use Rattle.fk_puts.specs.Puts.{PutsSome, PutsRecord, PutsRecorded, PutsSomeRecorded, HasPut, HasPutSome}

module _ (May : List ℕ → Type 0) where
  same : (old new : Option FileMap) → new ≡ old → KeepsBut May old new
  same None new h = tt
  same (Some old) None h = absurd (cc)
  same (Some old) (Some new) h = λ file may. let is : new ≡ old = cc in subst (λ (f : FileMap). f file ≡ old file) (sym is) refl

  then_ : (old between new : Option FileMap) → KeepsBut May old between → KeepsBut May between new → KeepsBut May old new
  then_ None between new a b = tt
  then_ (Some old) None new a b = absurd a
  then_ (Some old) (Some between) None a b = absurd b
  then_ (Some old) (Some between) (Some new) a b = λ file may. b file may ∙ a file may

  but_one : (name : List ℕ) (old new : Option FileMap) → May name → KeepsOthers old new name → KeepsBut May old new
  but_one name None new may h = tt
  but_one name (Some old) None may h = absurd h
  but_one name (Some old) (Some new) may h = λ file not. h file (λ is. not (subst May (sym is) may))

  module _ (images : (name : List ℕ) → May (image_name name)) where
    one : (name : List ℕ) (end : Option JobEnd) (old new : Option FileMap) → PutsEnd name end old new → KeepsBut May old new
    one name (Some (Checkpointed hold release image)) old new h = but_one (image_name name) old new (images name) h.2.1
    one name other old new h = same old new h

    all : (ends : List (Option JobEnd)) (place : ℕ) (names : List (List ℕ)) (old new : Option FileMap) → PutImages ends place names old new
        → KeepsBut May old new
    all ends place [] old new h = same old new h
    all ends place (name ∷ names) old new h =
        then_ old h.0 new (one name (end_in (slice_get ends place)) old h.0 h.1) (all ends (place + 1) names h.0 new h.2)

    opened : (name : List ℕ) (end : Option JobEnd) (old new : Option FileMap) → OpensEnd name end old new → KeepsBut May old new
    opened name (Some (Checkpointed hold release image)) old new h = but_one (image_name name) old new (images name) h
    opened name other old new h = same old new h

    some : (ends : List (Option JobEnd)) (place : ℕ) (names : List (List ℕ)) (old new : Option FileMap) → PutSomeImages ends place names old new
        → KeepsBut May old new
    some ends place [] old new h = same old new h
    some ends place (name ∷ names) old new (inl open_) = opened name (end_in (slice_get ends place)) old new open_
    some ends place (name ∷ names) old new (inr h) =
        then_ old h.0 new (one name (end_in (slice_get ends place)) old h.0 h.1) (some ends (place + 1) names h.0 new h.2)

module _ (trace : Option (List ℕ)) where
  abbrev May : List ℕ → Type 0
  May file = IsImageName file ⊎ IsTraceName trace file

images : (trace : Option (List ℕ)) (name : List ℕ) → IsImageName (image_name name) ⊎ IsTraceName trace (image_name name)
images trace name = inl (name, refl)

traced : (trace : Option (List ℕ)) (history : List Move) (old new : Option FileMap) → PutsTrace trace history old new → KeepsBut (May trace) old new
traced None history old new h = same (May None) old new h
traced (Some name) history old new h = but_one (May (Some name)) (trace_name name) old new (inr refl) h.1

untraced : (trace : Option (List ℕ)) (old new : Option FileMap) → KeepsButTrace trace old new → KeepsBut (May trace) old new
untraced None old new h = same (May None) old new h
untraced (Some name) old new h = but_one (May (Some name)) (trace_name name) old new (inr refl) h

some_of : (trace : Option (List ℕ)) (report : Report) (old new : Option FileMap) → PutsSome trace report old new → KeepsBut (May trace) old new
some_of trace report old new (inl h) = some (May trace) (images trace) report.jobs 0 report.images old new h
some_of trace report old new (inr h) =
    then_ (May trace) old h.0 new (all (May trace) (images trace) report.jobs 0 report.images old h.0 h.1) (untraced trace h.0 new h.2)

whole_of : (trace : Option (List ℕ)) (report : Report) (old new : Option FileMap) → PutsRun trace report old new → KeepsBut (May trace) old new
whole_of trace report old new h =
    then_ (May trace) old h.0 new (all (May trace) (images trace) report.jobs 0 report.images old h.0 h.1) (traced trace report.history h.0 new h.2)

-- ---- with a record

abbrev MayRecord : List ℕ → List ℕ → Type 0
MayRecord name file = May (Some name) file ⊎ (file ≡ record_name name)

-- what keeps all but images and a trace keeps all but these and a record
wider : (name : List ℕ) (old new : Option FileMap) → KeepsBut (May (Some name)) old new → KeepsBut (MayRecord name) old new
wider name None new h = tt
wider name (Some old) None h = h
wider name (Some old) (Some new) h = λ file not. h file (λ may. not (inl may))

recorded : (name : List ℕ) (text : Option (List ℕ)) (old new : Option FileMap) → PutsRecord name text old new → KeepsBut (MayRecord name) old new
recorded name None old new h = same (MayRecord name) old new h
recorded name (Some text) old new h = but_one (MayRecord name) (record_name name) old new (inr refl) h.1

all_recorded : (name : List ℕ) (report : Report) (old new : Option FileMap) → PutsRecorded name report old new → KeepsBut (MayRecord name) old new
all_recorded name report old new h =
    then_ (MayRecord name) old h.0 new (wider name old h.0 (whole_of (Some name) report old h.0 h.1)) (recorded name report.recorded h.0 new h.2)

some_recorded : (name : List ℕ) (report : Report) (old new : Option FileMap) → PutsSomeRecorded name report old new → KeepsBut (MayRecord name) old new
some_recorded name report old new (inl h) = wider name old new (some_of (Some name) report old new h)
some_recorded name report old new (inr h) =
    then_ (MayRecord name) old h.0 new (wider name old h.0 (whole_of (Some name) report old h.0 h.1))
    (but_one (MayRecord name) (record_name name) h.0 new (inr refl) h.2)

kept : (left : Files) (report : Option Report) (old new : Option FileMap) → HasPut left report old new → KeepsFiles left old new
kept NoFiles report old new h = h
kept (RunFiles trace) None old new h = same (May trace) old new h
kept (RunFiles trace) (Some report) old new h = whole_of trace report old new h
kept (RecordFiles name) None old new h = same (MayRecord name) old new h
kept (RecordFiles name) (Some report) old new h = all_recorded name report old new h

kept_some : (left : Files) (report : Option Report) (old new : Option FileMap) → HasPutSome left report old new → KeepsFiles left old new
kept_some NoFiles report old new h = h
kept_some (RunFiles trace) None old new h = same (May trace) old new h
kept_some (RunFiles trace) (Some report) old new h = some_of trace report old new h
kept_some (RecordFiles name) None old new h = same (MayRecord name) old new h
kept_some (RecordFiles name) (Some report) old new h = some_recorded name report old new h

-- whether or not all of it was put
pub kept_by : (r : Result (Unit {0}) ShelfFail) (left : Files) (report : Option Report) (old new : Option FileMap) →
    OnOk r (HasPut left report old new) → OnErr r (HasPutSome left report old new) → KeepsFiles left old new
kept_by (Ok done) left report old new all some = kept left report old new all
kept_by (Err fail) left report old new all some = kept_some left report old new some
