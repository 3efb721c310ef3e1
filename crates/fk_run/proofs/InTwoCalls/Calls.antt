-- From two reports to the law of two runs.
use Rattle.std.proofs.Common.{◌≡◌, ℕ, Bool, true, false, zero, suc, List, [], ◌∷◌, map, Option, Some, sym, ap, ◌∙◌, subst}
use Rattle.std.specs.Bool.{OnTrue, OnFalse}
use Rattle.std.specs.List.{slice_get}
use Rattle.fk_image.specs.declared.image.image.Image.{Image}
use Rattle.fk_image.specs.Image.Picture.{picture}
use Rattle.fk_causes.specs.Shelf.{FileMap}
use Rattle.fk_commands.specs.declared.outcome.Outcome.{Outcome}
use Rattle.fk_commands.specs.declared.outcome.Report.{Report}
use Rattle.fk_model.specs.declared.moves.Rule.{Rule}
use Rattle.fk_words.specs.Commands.{Command, Run, RunFiles}
use Rattle.fk_run.specs.Jobs.{MadeReportIsTransparent}
use Rattle.fk_puts.specs.Puts.{HasPut, PutsRun}
use Rattle.fk_commands.specs.Status.{has_put_all}
use Rattle.fk_run.specs.Theorem.{Outside}
use Rattle.fk_run.specs.Top.{IsDue}
use Rattle.fk_plays.specs.Entries.{given_at, IsFrom}
use Rattle.fk_plays.specs.Entries.IsFrom.{Made, Given}
use Rattle.laws_restore.specs.Rooms.Restoring.{bound_by}
use Rattle.laws_runs.specs.Transparency.{Restored}
use Rattle.laws_two_runs.proofs.Between.{copies_go_on}
use Rattle.fk_run.specs.TwoCalls.{ReportedRun, RunsJobs, TakesImage, WholeCall, SavedGoesOnInAnotherCall, CallsGoOn}
use Rattle.fk_run.proofs.InTwoCalls.Left.{put_by_run}
use Rattle.fk_run.proofs.InTwoCalls.Found.{given_is}
use Rattle.fk_run.proofs.InTwoCalls.Reported.{reports_are_of_runs}

-- what a list has at a place, another has of it
mapped_at : {A B : Type 0} (f : A → B) (xs : List A) (index : ℕ) (x : A) → slice_get xs index ≡ Some x → slice_get (map f xs) index ≡ Some (f x)
mapped_at f [] index x e = absurd (cc)
mapped_at f (y ∷ xs) zero x e = let same : y ≡ x = cc in ap (λ z. Some (f z)) same
mapped_at f (y ∷ xs) (suc index) x e = mapped_at f xs index x e

-- what no earlier job makes was given
was_given : (found : FileMap) (report : Report) (run : ReportedRun found report) (birth slot make done : ℕ) (name : List ℕ) (bind : List (ℕ × ℕ))
    (image : Image)
    (takes : TakesImage run birth slot make done name bind) → IsFrom run.scenario.jobs run.given run.is.last.ends takes.index name image
    → given_at takes.index run.given ≡ Some image
was_given found report run birth slot make done name bind image takes (Made from hold release maker before ended) =
    let both = sym maker ∙ takes.unmade in absurd (cc)
was_given found report run birth slot make done name bind image takes (Given none is) = is

pub saved_goes_on : SavedGoesOnInAnotherCall
saved_goes_on before left found report other run later trace puts birth slot hold there place make done name taken bind leaves takes same =
    let put = put_by_run trace report before left name leaves.index hold leaves.release leaves.image puts
    (ap (λ names. slice_get names leaves.index) run.is.images
    ∙ mapped_at _ run.scenario.jobs leaves.index _ leaves.entry)
    leaves.done leaves.last in
    let kept = run.transparency.saved leaves.index leaves.moment birth leaves.path slot name leaves.image hold leaves.release leaves.entry leaves.done in
    let built = later.transparency.made takes.index takes.moment there place taken bind make done takes.entry takes.ended in
    let given = was_given found other later there place make done taken bind built.0 takes built.1 in
    let one : built.0 ≡ leaves.image = given_is found later.scenario.jobs later.given takes.index takes.moment there place taken bind put.0 leaves.image built.0
    later.found takes.entry takes.unmade given (same ∙ put.2) put.1 in
    copies_go_on _ run.first run.is.last report.history run.is.run _ later.first later.is.last other.history later.is.run leaves.image birth slot hold
    leaves.release there place make done (bound_by bind) kept.0 kept.1
    (subst (λ (x : Image). Restored later.is.run there place make done (bound_by bind) (picture x)) one built.3)

-- ---- of two calls of the top

on_false : (b : Bool) (P : Type 0) → b ≡ false → OnFalse b P → P
on_false true P is has = absurd (cc)
on_false false P is has = has

on_true : (b : Bool) (P : Type 0) → b ≡ true → OnTrue b P → P
on_true true P is has = has
on_true false P is has = absurd (cc)

run_of : {R W H : Type 0} (rules : List (List ℕ × Rule)) (command : Command) (before after : Outside R W H) (outcome : Outcome) (report : Report)
    (files : FileMap) → RunsJobs command → WholeCall rules command before after outcome report files → ReportedRun files report
run_of rules command before after outcome report files runs call =
    let done = on_false _ _ call.whole call.promises.correct in
    reports_are_of_runs rules command before.left files outcome report done.text runs call.has
    (subst (λ (told : Option FileMap). IsDue rules (Some command) before.left told outcome done.text) call.told done.due)
    (subst (MadeReportIsTransparent rules) call.has call.promises.transparency)

puts_of : {R W H : Type 0} (rules : List (List ℕ × Rule)) (trace : Option (List ℕ)) (before after : Outside R W H) (outcome : Outcome) (report : Report)
    (files left : FileMap) → WholeCall rules (Run trace) before after outcome report files → has_put_all outcome.status ≡ true → after.files ≡ Some left
    → PutsRun trace report (Some files) (Some left)
puts_of rules trace before after outcome report files left call all now =
    let put = on_true _ _ all call.promises.files.put in
    let had = subst (λ (r : Option Report). HasPut (RunFiles trace) r before.files after.files) call.has put in
    subst (λ (old : Option FileMap). PutsRun trace report old (Some left)) call.told (subst (PutsRun trace report before.files) now had)

pub calls_go_on : {R W H S K F : Type 0} → CallsGoOn R W H S K F
calls_go_on rules others trace command before after start stop outcome second report other files left found one all now runs two =
    let run = run_of rules (Run trace) before after outcome report files tt one in
    let later = run_of others command start stop second other found runs two in
    (run, later, saved_goes_on files left found report other run later trace (puts_of rules trace before after outcome report files left one all now))
