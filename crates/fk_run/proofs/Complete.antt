-- A call whose input is right is whole, unless the outside or the memory failed.
use Rattle.std.proofs.Common.{◌≡◌, ◌≤◌, ◌⊎◌, inl, inr, ℕ, Bool, false, nat_lt, List, [], ◌∷◌, ◌++◌, length, Option, Some, None, IfSome}
use Rattle.std.proofs.Common.{Result, Ok, Err, IfErr, refl, sym, ap, subst, ◌∙◌, string_bytes, arith}
use Rattle.std.specs.Bool.{MatchBool, OnFalse, OnTrue}
use Rattle.std.specs.Prelude.{⊤}
use Rattle.std.specs.Io.KnownBytes.{Appends}
use Rattle.fk_asm.specs.Assembler.{assembled}
use Rattle.fk_asm.specs.declared.fail.AsmError.{AsmError}
use Rattle.fk_plays.specs.Plays.{MayPlay}
use Rattle.fk_causes.specs.Causes.{Rose}
use Rattle.fk_causes.specs.declared.whole.TheConstants.{LIMIT}
use Rattle.fk_causes.specs.Shelf.{FileMap}
use Rattle.fk_commands.specs.Check.{IsCheck}
use Rattle.fk_commands.specs.declared.outcome.Outcome.{Outcome}
use Rattle.fk_commands.specs.declared.outcome.Report.{Report}
use Rattle.fk_commands.specs.declared.status.Status.{Status}
use Rattle.fk_commands.specs.declared.status.Status.TheVariants.{Ok as Done, Usage, TooLong, BadText, BadScenario, Absent, BadImage}
use Rattle.fk_commands.specs.declared.status.Status.TheVariants.{BadTrace, JobRefused, Budget, ReadFault, WriteFault, ShelfFault, NoMemory}
use Rattle.fk_commands.specs.Exec.{IsExec, status_of_run, state_after}
use Rattle.fk_commands.specs.Outcomes.{IsRefused, without_report}
use Rattle.fk_commands.specs.declared.prepared.Prepared.{Prepared}
use Rattle.fk_commands.specs.Prepared.{ComesTo, IsRefusal, IsRefusedAt}
use Rattle.fk_commands.specs.Show.{IsFileShown, IsShown}
use Rattle.fk_commands.specs.Status.{row_of, progress_of, Progress, Words, Reading, Refusing, Writing, Finished, Failed, was_cut_short}
use Rattle.fk_commands.specs.Status.{has_put_all, has_put_none}
use Rattle.fk_plays.specs.Cores.{RunCore}
use Rattle.fk_gen.specs.Soak.{scenario}
use Rattle.fk_image.specs.declared.image.image.Image.{Image}
use Rattle.fk_image.specs.Format.Reading.{image_reading}
use Rattle.fk_model.specs.declared.job.JobSpec.{JobSpec}
use Rattle.fk_model.specs.declared.moves.Move.{Move}
use Rattle.fk_plays.specs.Images.{needed, read_bytes, read_file, Finds, FindsImages}
use Rattle.fk_plays.specs.Images.FindsImages.{NoJob, Found, Refused, Later}
use Rattle.fk_plays.specs.Play.{IsPlay, IsPlayedBy, IsScenario, IsSoak, IsTraced, IsWholeRun, IsWith, IsWithImages}
use Rattle.fk_puts.specs.Puts.{HasPut}
use Rattle.fk_plays.specs.Record.{Entry}
use Rattle.fk_plays.proofs.Records.{spells_not_bad, spells_same}
use Rattle.fk_plays.proofs.Apart.{are-ports}
use Rattle.fk_plays.specs.Ports.{ports_of}
use Rattle.fk_plays.specs.Recorded.{IsWholeRecord}
use Rattle.fk_plays.specs.Recording.{watch_place, IsRecorded, IsRecordedFrom}
use Rattle.fk_plays.specs.Recorded as replays
use Rattle.fk_plays.specs.Recorded.{IsReplay, IsReplayedWith}
use Rattle.fk_plays.specs.Replaying.{replies_by, IsReplayedBy}
use Rattle.fk_report.specs.declared.end.End.{End}
use Rattle.fk_report.specs.declared.end.End.TheVariants as ends
use Rattle.fk_report.specs.declared.job_end.JobEnd.{JobEnd}
use Rattle.fk_report.specs.Jobs.{refused_from}
use Rattle.fk_pager.specs.Pages.{MayBePaged}
use Rattle.fk_run.specs.PageCommand.{IsPageCommand}
use Rattle.fk_run.specs.PageCommand as pages
use Rattle.fk_run.proofs.Due.{done-whole, held}
use Rattle.fk_run.proofs.Transparency.{read-keeps}
use Rattle.fk_run.specs.Complete.{AreRight, HasImage, HasImages, HasReplay, HasTrace, IsComplete, IsImageFile, IsProgram, IsRight}
use Rattle.fk_run.specs.Complete.{IsRecordFile, IsReplayFile, IsScenarioWith, IsTraceFile, IsWhole}
use Rattle.fk_commands.specs.Tables.{Rules}
use Rattle.fk_run.specs.declared.made.Made.{Made}
use Rattle.fk_run.specs.Made.{MadeComesTo, outcome_of}
use Rattle.fk_run.specs.Top.{IsUnlessTooLong, IsCalledFor, IsDue, IsDone}
use Rattle.fk_plays.specs.Made.{Images, status_of_refused, status_of_end}
use Rattle.fk_plays.specs.Runs.{begun, IsAlone, IsPlayed, IsRunFrom}
use Rattle.fk_scenario.specs.declared.scenario.scenario.Scenario.{Scenario}
use Rattle.fk_scenario.specs.Scenario.Kept.{KeepsScenario}
use Rattle.fk_scenario.specs.Scenario.Reading.{scenario_reading}
use Rattle.fk_scenario.specs.declared.fields.fail.ScenarioError.{ScenarioError}
use Rattle.fk_trace_text.proofs.Traces.{Spells-not_bad}
use Rattle.fk_plays.specs.Posts.{all_replaying}
use Rattle.fk_trace_text.specs.Trace.{Spells}
use Rattle.fk_plays.specs.Following.{core_with}
use Rattle.fk_words.specs.Commands.{Command, Exec, Check, Run, Play, Show, Soak, Record, Replay, Page, leaves}

-- ---- how what is done ends

refused-ends : (refused : Option ℕ) → progress_of (status_of_refused refused) ≡ Finished
refused-ends None = refl
refused-ends (Some job) = refl

run-ends : (budget : ℕ) (jobs : List (Option JobEnd)) (end : End) → progress_of (status_of_end budget jobs end) ≡ Finished
run-ends budget jobs ends.Halted = refused-ends (refused_from 0 jobs)
run-ends budget jobs ends.Quiet = refused-ends (refused_from 0 jobs)
run-ends budget jobs ends.Budget = refl
run-ends budget jobs ends.Listed = refused-ends (refused_from 0 jobs)

page-ends : (end : End) (budget : ℕ) → progress_of (pages.status_of end budget) ≡ Finished
page-ends ends.Halted budget = refl
page-ends ends.Quiet budget = refl
page-ends ends.Budget budget = refl
page-ends ends.Listed budget = refl

exec-ends : (code : Option ℕ) → progress_of (status_of_run code) ≡ Finished
exec-ends (Some code) = refl
exec-ends None = refl

alone-ends : (Is : RunCore → Report → List ℕ → Type 0) (specs : List JobSpec) (given : Images) (first : RunCore) (budget : ℕ) (status : Status)
    (report : Option Report) (text : List ℕ) → IsAlone Is specs given first budget status report text → progress_of status ≡ Finished
alone-ends Is specs given first budget status None text ran = absurd ran
alone-ends Is specs given first budget status (Some report) text ran = rw ran.2 (run-ends budget report.jobs report.end)

recorded-ends : (watch : ℕ) (specs : List JobSpec) (given : Images) (first : RunCore) (budget : ℕ) (status : Status)
    (report : Option Report) (text : List ℕ) → IsRecorded watch specs given first budget status report text → progress_of status ≡ Finished
recorded-ends watch specs given first budget status None text ran = absurd ran
recorded-ends watch specs given first budget status (Some report) text ran = rw ran.2 (run-ends budget report.jobs report.end)

played-ends : (specs : List JobSpec) (given : Images) (first : RunCore) (budget : ℕ) (trace : List ℕ) (moves : List Move) (status : Status)
    (report : Option Report) (text : List ℕ) → Spells (MayPlay (begun specs given budget first)) trace moves
    → IsPlayed specs given first budget trace status report text → progress_of status ≡ Finished
played-ends specs given first budget trace moves status None text spells played =
    absurd (Spells-not_bad (MayPlay (begun specs given budget first)) trace moves played.0 spells played.2)
played-ends specs given first budget trace moves status (Some report) text spells played = rw played.2 (run-ends budget report.jobs report.end)

-- ---- what is needed is there

is-image : (files : Option FileMap) (need : Option (List ℕ)) (status : Status) → IfSome need (HasImage files) → Finds files need (Err status) → ⊥
is-image files None status has found = cc
is-image files (Some name) status has found = by found.0 (has found.0 found.1) found.2
  where
    by : (file : Option (List ℕ)) → IsImageFile file → Err status ≡ read_file name file → ⊥
    by None image same = image
    by (Some bytes) image same = let read : Err status ≡ read_bytes name (Ok image.0) = same ∙ ap (read_bytes name) image.1 in cc

are-images : (files : Option FileMap) (before jobs : List JobSpec) (found : Result Images Status) → FindsImages files before jobs found
    → HasImages files before jobs → (images : Images) × (found ≡ Ok images)
are-images files _ _ _ (NoJob before) has = ([], refl)
are-images files _ _ _ (Found before job jobs image images one more) has = (image ∷ images, refl)
are-images files _ _ _ (Refused before job jobs status one) has = absurd (is-image files (needed before job) status has.0 one)
are-images files _ _ _ (Later before job jobs image status one more) has =
    let none = are-images files (before ++ job ∷ []) jobs (Err status) more has.1 in
    let same : Err status ≡ Ok none.0 = none.1 in
    absurd (cc)

with-images : (files : Option FileMap) (s : Scenario) (Is : Images → Outcome → List ℕ → Type 0) (outcome : Outcome) (text : List ℕ) → HasImages files [] s.jobs
    → IsWithImages files s Is outcome text → (given : Images) × FindsImages files [] s.jobs (Ok given) × Is given outcome text
with-images files s Is outcome text has is = by is.found is.finds (are-images files [] s.jobs is.found is.finds has) is.is
  where
    by : (found : Result Images Status) → FindsImages files [] s.jobs found → (images : Images) × (found ≡ Ok images) → IsWith Is found outcome text
        → (given : Images) × FindsImages files [] s.jobs (Ok given) × Is given outcome text
    by (Err status) finds ok is = let same : Err status ≡ Ok ok.0 = ok.1 in absurd (cc)
    by (Ok given) finds ok is = (given, finds, is)

-- ---- what right input calls for is done whole, command by command

module _ (outcome : Outcome) (text : List ℕ) where
  -- an outcome with such a status
  ends-so : (status : Status) → progress_of status ≡ Finished → outcome ≡ without_report status → progress_of outcome.status ≡ Finished
  ends-so status finished same = rw same finished

  unless-long : (bytes : List ℕ) (Is : Outcome → List ℕ → Type 0) → length bytes ≤ LIMIT → IsUnlessTooLong bytes Is outcome text → Is outcome text
  unless-long bytes Is few is = subst (λ (b : Bool). MatchBool b (IsRefused TooLong outcome text) (Is outcome text)) (short (length bytes) few) is
    where
      short : (n : ℕ) → n ≤ LIMIT → nat_lt LIMIT n ≡ false
      short n few = grind arith

  exec : (reading : Result (List ℕ) AsmError) → IsProgram reading → IsExec reading outcome text → progress_of outcome.status ≡ Finished
  exec (Err error) right is = let same : Err error ≡ Ok right.0 = right.1 in absurd (cc)
  exec (Ok program) right is = ends-so (status_of_run (state_after program).halted) (exec-ends (state_after program).halted) is.0

  check : (reading : Result Scenario ScenarioError) → IsScenario reading → IsCheck reading outcome text → progress_of outcome.status ≡ Finished
  check (Err error) right is = let same : Err error ≡ Ok right.0 = right.1 in absurd (cc)
  check (Ok s) right is = ends-so Done refl is.0

  run : (files : Option FileMap) (reading : Result Scenario ScenarioError) → IsScenarioWith (λ s. HasImages files [] s.jobs) reading
      → IsWholeRun files reading outcome text → progress_of outcome.status ≡ Finished
  run files reading right =
      subst (λ (r : Result Scenario ScenarioError). IsWholeRun files r outcome text → progress_of outcome.status ≡ Finished) (sym right.1) (of right.0 right.2)
    where
      of : (s : Scenario) → HasImages files [] s.jobs → IsWithImages files s (IsRunFrom s) outcome text → progress_of outcome.status ≡ Finished
      of s has is =
          let ran = (with-images files s (IsRunFrom s) outcome text has is).2 in
          alone-ends _ s.jobs _ ran.first s.budget outcome.status outcome.report text ran.ran

  traced : (name : List ℕ) (files : Option FileMap) (s : Scenario) (given : Images) → FindsImages files [] s.jobs (Ok given) → (trace : Option (List ℕ))
      → IsTraceFile files s trace → IsTraced name s given trace outcome text → progress_of outcome.status ≡ Finished
  traced name files s given finds None right is = absurd right
  traced name files s given finds (Some trace) right is =
      let legal = right given is.first finds is.is_first in
      played-ends s.jobs given is.first s.budget trace legal.0 outcome.status outcome.report text legal.1 is.played

  play : (name : List ℕ) (files : Option FileMap) (reading : Result Scenario ScenarioError)
      → IsScenarioWith (λ s. HasImages files [] s.jobs × HasTrace files name s) reading
      → IsPlay name files reading outcome text → progress_of outcome.status ≡ Finished
  play name files reading right =
      subst (λ (r : Result Scenario ScenarioError). IsPlay name files r outcome text → progress_of outcome.status ≡ Finished) (sym right.1) (of right.0 right.2)
    where
      of : (s : Scenario) → HasImages files [] s.jobs × HasTrace files name s → IsWithImages files s (IsPlayedBy name files s) outcome text
          → progress_of outcome.status ≡ Finished
      of s has is =
          let found = with-images files s (IsPlayedBy name files s) outcome text has.0 is in
          traced name files s found.0 found.1 found.2.0 (has.1 found.2.0 found.2.1) found.2.2

  recorded : (watch : ℕ) (files : Option FileMap) (reading : Result Scenario ScenarioError) → IsScenarioWith (λ s. HasImages files [] s.jobs) reading
      → IsWholeRecord watch files reading outcome text → progress_of outcome.status ≡ Finished
  recorded watch files reading right =
      subst (λ (r : Result Scenario ScenarioError). IsWholeRecord watch files r outcome text → progress_of outcome.status ≡ Finished) (sym right.1)
      (of right.0 right.2)
    where
      of : (s : Scenario) → HasImages files [] s.jobs → IsWithImages files s (IsRecordedFrom watch s) outcome text → progress_of outcome.status ≡ Finished
      of s has is =
          let ran = (with-images files s (IsRecordedFrom watch s) outcome text has is).2 in
          recorded-ends watch s.jobs _ ran.first s.budget outcome.status outcome.report text ran.ran

  replayed-by : (files : Option FileMap) (s : Scenario) → KeepsScenario s → (given : Images) (trace bytes : List ℕ) → FindsImages files [] s.jobs (Ok given)
      → IsRecordFile files s trace (Some bytes) → IsReplayedBy s given trace bytes outcome text → progress_of outcome.status ≡ Finished
  replayed-by files s keeps given trace bytes finds right (inl (line, bad, refused)) =
      absurd (spells_not_bad (ports_of s.servers) (are-ports s keeps) bytes right.0 line right.1 bad)
  replayed-by files s keeps given trace bytes finds right (inr (entries, spells, is)) =
      let same : right.0 ≡ entries = spells_same (ports_of s.servers) (are-ports s keeps) bytes right.0 entries right.1 spells in
      let first = λ (es : List Entry). core_with is.first (all_replaying (replies_by s es) is.first.servers) in
      let legal = right.2 given is.first finds is.is_first in
      let spelled : Spells (MayPlay (begun s.jobs given s.budget (first entries))) trace legal.0 =
      subst (λ (es : List Entry). Spells (MayPlay (begun s.jobs given s.budget (first es))) trace legal.0) same legal.1 in
      played-ends s.jobs given (first entries) s.budget trace legal.0 outcome.status outcome.report text spelled is.played

  replayed-file : (name : List ℕ) (files : Option FileMap) (s : Scenario) → KeepsScenario s → (given : Images) (trace : List ℕ)
      → FindsImages files [] s.jobs (Ok given) → (told : Option (List ℕ)) → IsRecordFile files s trace told
      → replays.IsRecordFile name s given trace told outcome text → progress_of outcome.status ≡ Finished
  replayed-file name files s keeps given trace finds None right is = absurd right
  replayed-file name files s keeps given trace finds (Some bytes) right is = replayed-by files s keeps given trace bytes finds right is

  replayed-trace : (name : List ℕ) (files : Option FileMap) (s : Scenario) → KeepsScenario s → (given : Images) → FindsImages files [] s.jobs (Ok given)
      → (trace : Option (List ℕ)) → IsReplayFile files name s trace → replays.IsTraceFile name files s given trace outcome text
      → progress_of outcome.status ≡ Finished
  replayed-trace name files s keeps given finds None right is = absurd right
  replayed-trace name files s keeps given finds (Some trace) right (inl (index, bad, refused)) =
      absurd (Spells-not_bad (λ _ _. ⊤) trace right.0.0 index right.0.1 bad)
  replayed-trace name files s keeps given finds (Some trace) right (inr (moves, spells, is)) =
      replayed-file name files s keeps given trace finds is.0 (right.1 is.0 is.1) is.2

  replay : (name : List ℕ) (files : Option FileMap) (reading : Result Scenario ScenarioError) → ((s : Scenario) → reading ≡ Ok s → KeepsScenario s)
      → IsScenarioWith (λ s. HasImages files [] s.jobs × HasReplay files name s) reading
      → IsReplay name files reading outcome text → progress_of outcome.status ≡ Finished
  replay name files reading keeps right =
      subst (λ (r : Result Scenario ScenarioError). IsReplay name files r outcome text → progress_of outcome.status ≡ Finished) (sym right.1)
      (of right.0 (keeps right.0 right.1) right.2)
    where
      of : (s : Scenario) → KeepsScenario s → HasImages files [] s.jobs × HasReplay files name s
          → IsWithImages files s (IsReplayedWith name files s) outcome text
          → progress_of outcome.status ≡ Finished
      of s keeps has is =
          let found = with-images files s (IsReplayedWith name files s) outcome text has.0 is in
          replayed-trace name files s keeps found.0 found.1 found.2.0 (has.1 found.2.0 found.2.1) found.2.2

  shown : (name : List ℕ) (file : Option (List ℕ)) → IsImageFile file → IsFileShown name file outcome text → progress_of outcome.status ≡ Finished
  shown name None right is = absurd right
  shown name (Some bytes) right is = by (image_reading bytes) right.1 is
    where
      by : (reading : Result Image (ℕ × ℕ)) → reading ≡ Ok right.0 → IsShown name reading outcome text → progress_of outcome.status ≡ Finished
      by (Err fault) same is = absurd (cc)
      by (Ok image) same is = ends-so Done refl is.0

  soak : (count : ℕ) (reading : Result Scenario ScenarioError) → IsScenario reading → IsSoak count reading outcome text → progress_of outcome.status ≡ Finished
  soak count (Err error) right is = let same : Err error ≡ Ok right.0 = right.1 in absurd (cc)
  soak count (Ok s) right is = alone-ends _ s.jobs [] is.first s.budget outcome.status outcome.report text is.ran

  paged : (slot room : ℕ) (reading : Result Scenario ScenarioError) → IsScenarioWith (MayBePaged slot) reading → IsPageCommand slot room reading outcome text
      → progress_of outcome.status ≡ Finished
  paged slot room (Err error) right is = let same : Err error ≡ Ok right.0 = right.1 in absurd (cc)
  paged slot room (Ok s) right (inl refused) =
      let read : Ok s ≡ Ok right.0 = right.1 in
      let same : s ≡ right.0 = cc in
      absurd (refused.0 (subst (MayBePaged slot) (sym same) right.2))
  paged slot room (Ok s) right (inr (p, same, is)) = rw same (page-ends p.end s.budget)

  -- each command
  called : (rules : Rules) (command : Option Command) (files : Option FileMap) (bytes : List ℕ) → IsRight rules command files bytes
      → IsCalledFor rules command files bytes outcome text → progress_of outcome.status ≡ Finished
  called rules None files bytes right is = absurd right
  called rules (Some Exec) files bytes right is = exec (assembled bytes) right.1 (unless-long bytes (IsExec (assembled bytes)) right.0 is)
  called rules (Some Check) files bytes right is =
      check (scenario_reading rules bytes) right.1 (unless-long bytes (IsCheck (scenario_reading rules bytes)) right.0 is)
  called rules (Some (Run trace)) files bytes right is =
      run files (scenario_reading rules bytes) right.1 (unless-long bytes (IsWholeRun files (scenario_reading rules bytes)) right.0 is)
  called rules (Some (Play name)) files bytes right is =
      play name files (scenario_reading rules bytes) right.1 (unless-long bytes (IsPlay name files (scenario_reading rules bytes)) right.0 is)
  called rules (Some (Show name)) files bytes right is = shown name is.0 (right is.0 is.1) is.2
  called rules (Some (Soak count)) files bytes right is = soak count (scenario_reading rules (scenario count)) right is
  called rules (Some (Record name watch)) files bytes right is =
      recorded (watch_place watch) files (scenario_reading rules bytes) right.1
      (unless-long bytes (IsWholeRecord (watch_place watch) files (scenario_reading rules bytes)) right.0 is)
  called rules (Some (Replay name)) files bytes right is =
      replay name files (scenario_reading rules bytes) (λ s reading. read-keeps rules bytes s reading) right.1
      (unless-long bytes (IsReplay name files (scenario_reading rules bytes)) right.0 is)
  called rules (Some (Page slot room)) files bytes right is =
      paged slot room (scenario_reading rules bytes) right.1 (unless-long bytes (IsPageCommand slot room (scenario_reading rules bytes)) right.0 is)

  -- whatever the source may have held
  pub due-ends : (rules : Rules) (command : Option Command) (left : Option (List ℕ)) (files : Option FileMap) → AreRight rules command left files
      → IsDue rules command left files outcome text → progress_of outcome.status ≡ Finished
  due-ends rules command left files right due = called rules command files due.bytes (right due.bytes due.held) due.called_for

-- ---- a call, by how it has ended

module _ (rules : Rules) (command : Option Command) (left : Option (List ℕ)) (files now : Option FileMap) (old new : Option (List ℕ)) where
  abbrev Ends : Outcome → Type 0
  Ends outcome = IsWhole rules command left files now old new outcome ⊎ (outcome.status ≡ NoMemory)

  abbrev Done-so : Outcome → Type 0
  Done-so outcome = IsDone rules command left files old new outcome

  ends-whole : (outcome : Outcome) → AreRight rules command left files → Done-so outcome → HasPut (leaves command) outcome.report files now → Ends outcome
  ends-whole outcome right done put =
      inl (record { finished = due-ends outcome done.text rules command left files right done.due; done = done; put = put })

  -- of right input no refusal comes
  never : (outcome : Outcome) (status : Status) → outcome.status ≡ status → (progress_of status ≡ Finished → ⊥) → AreRight rules command left files
      → Done-so outcome → Ends outcome
  never outcome status is unfinished right done =
      absurd (unfinished (subst (λ (s : Status). progress_of s ≡ Finished) is (due-ends outcome done.text rules command left files right done.due)))

  by-status : (outcome : Outcome) → AreRight rules command left files → (outcome.status ≡ ReadFault → ⊥) → (outcome.status ≡ WriteFault → ⊥)
      → (outcome.status ≡ ShelfFault → ⊥) → (status : Status) → outcome.status ≡ status → OnFalse (was_cut_short status) (Done-so outcome)
      → OnTrue (has_put_all status) (HasPut (leaves command) outcome.report files now) → Ends outcome
  by-status o right no_read no_write no_shelf Done is done put = ends-whole o right done put
  by-status o right no_read no_write no_shelf (JobRefused job) is done put = ends-whole o right done put
  by-status o right no_read no_write no_shelf (Budget budget) is done put = ends-whole o right done put
  by-status o right no_read no_write no_shelf ReadFault is done put = absurd (no_read is)
  by-status o right no_read no_write no_shelf WriteFault is done put = absurd (no_write is)
  by-status o right no_read no_write no_shelf ShelfFault is done put = absurd (no_shelf is)
  by-status o right no_read no_write no_shelf NoMemory is done put = inr is
  by-status o right no_read no_write no_shelf other is done put = never o other is (λ same. cc same) right done

  -- it did what is due and made all puts, unless the outside or the memory failed, and the outside didn't
  pub complete : (outcome : Outcome) → OnFalse (was_cut_short outcome.status) (Done-so outcome)
      → OnTrue (has_put_all outcome.status) (HasPut (leaves command) outcome.report files now)
      → (outcome.status ≡ ReadFault → ⊥) → (outcome.status ≡ WriteFault → ⊥) → (outcome.status ≡ ShelfFault → ⊥)
      → IsComplete rules command left files now old new outcome
  complete outcome done put no_read no_write no_shelf =
      λ right. by-status outcome right no_read no_write no_shelf outcome.status refl done put

  -- the same of one that came to its end
  pub complete-finished : (run : Made) (outcome : Outcome) (AtSink AtPuts : Type 0)
      → IsDue rules command left files (outcome_of run) (string_bytes run.prepared.output)
      → OnFalse (was_cut_short outcome.status) (outcome ≡ outcome_of run)
      → OnFalse (was_cut_short outcome.status) (Appends old new (string_bytes run.prepared.output))
      → OnTrue (has_put_all outcome.status) (HasPut (leaves command) outcome.report files now) → OnTrue (has_put_none outcome.status) ⊥
      → (outcome.status ≡ WriteFault → AtSink) → (outcome.status ≡ ShelfFault → AtPuts) → (AtSink → ⊥) → (AtPuts → ⊥)
      → IsComplete rules command left files now old new outcome
  complete-finished run outcome AtSink AtPuts due same written put none write_fault shelf_fault no_write no_puts =
      complete outcome (done-whole rules command left files run outcome old new due same written) put
      (λ is. subst (λ (s : Status). OnTrue (has_put_none s) ⊥) is none) (λ is. no_write (write_fault is)) (λ is. no_puts (shelf_fault is))

  refused-by : (AtSource AtShelf : Type 0) → AreRight rules command left files → (AtSource → ⊥) → (AtShelf → ⊥) → (status : Status)
      → OnFalse (was_cut_short status) (IsDue rules command left files (without_report status) []) → IsRefusal AtSource AtShelf status
      → (progress_of status ≡ Finished) ⊎ (status ≡ NoMemory)
  refused-by AtSource AtShelf right no_read no_get Done due refusal = absurd refusal
  refused-by AtSource AtShelf right no_read no_get Usage due refusal = absurd refusal
  refused-by AtSource AtShelf right no_read no_get (JobRefused job) due refusal = absurd refusal
  refused-by AtSource AtShelf right no_read no_get (Budget budget) due refusal = absurd refusal
  refused-by AtSource AtShelf right no_read no_get ReadFault due refusal = absurd (no_read refusal)
  refused-by AtSource AtShelf right no_read no_get WriteFault due refusal = absurd refusal
  refused-by AtSource AtShelf right no_read no_get ShelfFault due refusal = absurd (no_get refusal)
  refused-by AtSource AtShelf right no_read no_get NoMemory due refusal = inr refl
  refused-by AtSource AtShelf right no_read no_get other due refusal = inl (due-ends (without_report other) [] rules command left files right due)

  -- no refusal has a status of what is done whole
  unfinished : (AtSource AtShelf : Type 0) (status : Status) → IsRefusal AtSource AtShelf status → progress_of status ≡ Finished → ⊥
  unfinished AtSource AtShelf status refusal same = by (row_of status).came (row_of status).failed refusal same
    where
      by : (came : Progress) (failed : Failed) → IsRefusedAt AtSource AtShelf came failed → came ≡ Finished → ⊥
      by Words failed refusal same = refusal
      by Reading failed refusal same = cc same
      by Refusing failed refusal same = cc same
      by Writing failed refusal same = refusal
      by Finished failed refusal same = refusal

  -- and of one that was refused before it wrote
  pub complete-refused : (status : Status) (AtSource AtShelf : Type 0)
      → OnFalse (was_cut_short status) (IsDue rules command left files (without_report status) [])
      → IsRefusal AtSource AtShelf status → (AtSource → ⊥) → (AtShelf → ⊥) → IsComplete rules command left files now old new (without_report status)
  complete-refused status AtSource AtShelf due refusal no_read no_get = λ right. by (refused-by AtSource AtShelf right no_read no_get status due refusal)
    where
      by : (progress_of status ≡ Finished) ⊎ (status ≡ NoMemory) → Ends (without_report status)
      by (inl same) = absurd (unfinished AtSource AtShelf status refusal same)
      by (inr none) = inr none

-- words that are no command are no right input
pub no-words : (rules : Rules) (command : Option Command) → command ≡ None → (left : Option (List ℕ)) (files now : Option FileMap)
    (old new : Option (List ℕ)) (outcome : Outcome) → IsComplete rules command left files now old new outcome
no-words rules command none left files now old new outcome = λ right.
    absurd (subst (λ (c : Option Command). IsRight rules c files (held left).0) none (right (held left).0 (held left).1))

-- what didn't rise didn't rise since
pub not-since : (before between now : ℕ) → between ≡ before → (Rose before now → ⊥) → Rose between now → ⊥
not-since before between now same never rose = never (subst (λ (count : ℕ). Rose count now) same rose)

-- what is prepared of a command that comes to nothing besides a report
pub plain-Ok : (rules : Rules) (own : Command) (left : Option (List ℕ)) (files : Option FileMap) (r : Result Prepared Status) (run : Prepared) → r ≡ Ok run
    → ComesTo (IsDue rules (Some own) left files) r → MadeComesTo (IsDue rules (Some own) left files) (Ok (record { prepared = run; extra = None }))
plain-Ok rules own left files r run ok comes = subst (λ (r : Result Prepared Status). ComesTo (IsDue rules (Some own) left files) r) ok comes

pub plain-Err : (rules : Rules) (own : Command) (left : Option (List ℕ)) (files : Option FileMap) (r : Result Prepared Status) (status : Status)
    → r ≡ Err status → ComesTo (IsDue rules (Some own) left files) r → MadeComesTo (IsDue rules (Some own) left files) (Err status)
plain-Err rules own left files r status err comes = subst (λ (r : Result Prepared Status). ComesTo (IsDue rules (Some own) left files) r) err comes

pub plain-refusal : (Why : Status → Type 0) (r : Result Prepared Status) (status : Status) → r ≡ Err status → IfErr r Why → Why status
plain-refusal Why r status err why = subst (λ (r : Result Prepared Status). IfErr r Why) err why

-- a call of a command that was prepared
pub complete-Ok : (rules : Rules) (command : Option Command) (own : Command) (left : Option (List ℕ)) (files between now : Option FileMap)
    (old new : Option (List ℕ)) (r : Result Made Status) (run : Made) (outcome : Outcome) (AtSink AtPuts : Type 0) → r ≡ Ok run
    → MadeComesTo (IsDue rules (Some own) left files) r → OnFalse (was_cut_short outcome.status) (outcome ≡ outcome_of run)
    → OnFalse (was_cut_short outcome.status) (Appends old new (string_bytes run.prepared.output)) → between ≡ files
    → OnTrue (has_put_all outcome.status) (HasPut (leaves (Some own)) outcome.report between now) → OnTrue (has_put_none outcome.status) ⊥
    → (outcome.status ≡ WriteFault → AtSink) → (outcome.status ≡ ShelfFault → AtPuts) → (AtSink → ⊥) → (AtPuts → ⊥) → command ≡ Some own
    → IsComplete rules command left files now old new outcome
complete-Ok rules command own left files between now old new r run outcome AtSink AtPuts ok comes same written kept put none sunk unput no_sunk no_unput is =
    let due = subst (λ (r : Result Made Status). MadeComesTo (IsDue rules (Some own) left files) r) ok comes in
    let put_since = subst (λ (f : Option FileMap). OnTrue (has_put_all outcome.status) (HasPut (leaves (Some own)) outcome.report f now)) kept put in
    subst (λ (c : Option Command). IsComplete rules c left files now old new outcome) (sym is)
    (complete-finished rules (Some own) left files now old new run outcome AtSink AtPuts due.0 same written put_since none sunk unput no_sunk no_unput)

-- and of one that wasn't
pub complete-Err : (rules : Rules) (command : Option Command) (own : Command) (left : Option (List ℕ)) (files now : Option FileMap) (old new : Option (List ℕ))
    (r : Result Made Status) (status : Status) (AtSource AtShelf : Type 0) → r ≡ Err status → MadeComesTo (IsDue rules (Some own) left files) r
    → IfErr r (IsRefusal AtSource AtShelf) → (AtSource → ⊥) → (AtShelf → ⊥) → command ≡ Some own
    → IsComplete rules command left files now old new (without_report status)
complete-Err rules command own left files now old new r status AtSource AtShelf err comes refusal no_read no_get is =
    let due = subst (λ (r : Result Made Status). MadeComesTo (IsDue rules (Some own) left files) r) err comes in
    let why = subst (λ (r : Result Made Status). IfErr r (IsRefusal AtSource AtShelf)) err refusal in
    subst (λ (c : Option Command). IsComplete rules c left files now old new (without_report status)) (sym is)
    (complete-refused rules (Some own) left files now old new status AtSource AtShelf due why no_read no_get)
