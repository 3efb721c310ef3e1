-- What is prepared of a run with taps is what `record` comes to with the scenario's own servers.
use Rattle.std.proofs.Common.{◌≡◌, ◌≤◌, ℕ, List, [], ◌∷◌, ◌++◌, map, length, Option, Some, None, Ok, refl, sym, ap, subst, ◌∙◌, string_bytes}
use Rattle.std.specs.List.{All}
use Rattle.fk_commands.specs.declared.outcome.Report.{Report}
use Rattle.fk_commands.specs.declared.prepared.Prepared.{Prepared}
use Rattle.fk_commands.specs.Prepared.{outcome_of, ComesTo}
use Rattle.fk_commands.specs.Status.{progress_of, Finished}
use Rattle.fk_first.specs.Cores.{RunCore, house, IsOver}
use Rattle.fk_first.specs.First.{IsFirst}
use Rattle.fk_model.specs.declared.moves.Move.{Move}
use Rattle.fk_model.specs.declared.names.Who.{Who}
use Rattle.fk_natives.specs.Answers.{after}
use Rattle.fk_natives.specs.Natives.{State, OfConsole, OfServer, OfReplay, OfTap, News, seen_of}
use Rattle.fk_record_text.specs.Record.{IsNote, first_line}
use Rattle.fk_record_text.specs.Whole as whole
use Rattle.fk_record_text.specs.Whole.{record_of}
use Rattle.fk_first.specs.First.{IsFirstWith}
use Rattle.fk_runs.specs.Recordings.Ports.{ports_of}
use Rattle.fk_runs.specs.Recordings.Recording.{port_of, seen_in, IsRecord, IsRecorded, IsRecordedFrom}
use Rattle.fk_runs.specs.Recordings.Told.{with_record, recorded_by, IsTold}
use Rattle.fk_runs.specs.Recordings.Written.{written_of, AreSmallTaps}
use Rattle.fk_runs.proofs.InRecordings.Carried.{carried, reported}
use Rattle.fk_runs.proofs.InRecordings.SamePorts.{same-ports}
use Rattle.fk_runs.proofs.InRecordings.Lines.{seen-at, come-to, are-lines, are-small}
use Rattle.fk_report.specs.declared.end.End.{End}
use Rattle.fk_report.specs.declared.end.End.TheVariants as ends
use Rattle.fk_responders.specs.Notes.{Note}
use Rattle.fk_runs.specs.RunReports.Made.{Images, IsEnd, IsMade, IsText, report_of}
use Rattle.fk_runs.specs.Runs.Runs.{IsReported, IsWritten}
use Rattle.fk_scenario.specs.declared.scenario.scenario.Scenario.{Scenario}
use Rattle.fk_first.specs.Served.{Services, servers}
use Rattle.fk_trace.specs.Posts.{all_tapped, tapped_as}
use Rattle.fk_workers.specs.Books.Shown.{Shown, HasRun, HasEnded}
use Rattle.laws_house.specs.Houses.{Job, jobs_of}
use Rattle.fk_recorded.specs.Pair.{recorded}
use Rattle.laws_runs.specs.Cores.{IsRun}
use Rattle.fk_recorded.specs.Following.{Told, told_in, core_with, IsRunWith}
use Rattle.fk_recorded.specs.Notes.{heard_by, noted_of, bare, all_bare, printed_of}
use Rattle.fk_recorded.proofs.Noting.{servers_come, taps_change_nothing}

-- ---- taps around servers

bare-tap : (watch : ℕ) (s : State) → bare (tapped_as watch s) ≡ bare s
bare-tap watch (OfConsole alias words side) = refl
bare-tap watch (OfServer index rule config position request left side) = refl
bare-tap watch (OfReplay replies left side) = refl
bare-tap watch (OfTap other noted inner) = refl

bare-tapped : (watch : ℕ) (es : Services) → all_bare es ≡ all_bare (all_tapped watch es)
bare-tapped watch [] = refl
bare-tapped watch (e ∷ es) = λ i. (e.0, sym (bare-tap watch e.1) i) ∷ bare-tapped watch es i

tapped-come : (watch : ℕ) (told : Who → List News) (es : Services)
    → map {B = Who × State} (λ e. (e.0, after e.1 (told e.0))) (all_tapped watch es) ≡ map (λ e. (e.0, after (tapped_as watch e.1) (told e.0))) es
tapped-come watch told [] = refl
tapped-come watch told (e ∷ es) =
    let first : Who × State = (e.0, after (tapped_as watch e.1) (told e.0)) in
    ap (λ (rest : Services). first ∷ rest) (tapped-come watch told es)

-- ---- a run with taps

module _ (s : Scenario) (given : Images) (watch : ℕ) (first : RunCore) (is_first : IsFirst s first) (last : RunCore) (history : List Move)
    (run : IsRun (house (jobs_of s.jobs given)) (core_with first (all_tapped watch first.servers)) history last)
    (plain : Prepared) (is : IsMade (IsText s.jobs) s.jobs given last s.budget history plain) (small : AreSmallTaps last.servers) where
  abbrev told : Who → List News
  told who = heard_by who (told_in run)

  abbrev text : List ℕ
  text = written_of (ports_of s.servers) last.servers

  -- what the observer sees
  abbrev seen : List (List ℕ × List Note)
  seen = recorded (port_of first.world) (λ e. seen_of watch (noted_of e.1 (told e.0))) first.servers

  come : last.servers ≡ map (λ e. (e.0, after (tapped_as watch e.1) (told e.0))) first.servers
  come = servers_come (house (jobs_of s.jobs given)) (core_with first (all_tapped watch first.servers)) last history run ∙ tapped-come watch told first.servers

  is-record : text ≡ record_of seen
  is-record =
      ap (λ es. written_of (ports_of s.servers) es) come
      ∙ ap (λ lines. first_line ++ lines)
      (are-lines (ports_of s.servers) watch (port_of first.world) told first.servers 0
      (sym (same-ports first.world (λ e. seen_of watch (noted_of e.1 (told e.0))) first.servers s.servers is_first.servers)))

  is-small : All (λ n. All IsNote n.1) seen
  is-small = are-small (ports_of s.servers) watch (port_of first.world) told first.servers (subst AreSmallTaps come small)

  -- the report, with the record
  abbrev report : Report
  report = record (report_of s.jobs last history is.end) { recorded = Some text }

  tapped-reported : IsReported s.jobs given (core_with first (all_tapped watch first.servers)) s.budget report
  tapped-reported = record {
    last = last;
    run = run;
    within = is.within;
    end = is.ends;
    jobs = refl;
    images = refl;
  }

  tapped-text : IsText s.jobs last report (string_bytes plain.output)
  tapped-text = record { threads = is.written.threads; are = is.written.are; written = is.written.written }

  pub recorded-so : IsOver (jobs_of s.jobs given) s.budget last
      → IsRecordedFrom watch s given (outcome_of (recorded_by text plain)) (string_bytes plain.output) × (progress_of plain.status ≡ Finished)
  unfolding tapped-reported
  recorded-so over =
      let own = taps_change_nothing (house (jobs_of s.jobs given)) (core_with first (all_tapped watch first.servers)) last history run first.servers
      (bare-tapped watch first.servers) in
      let with : IsRunWith run servers first.servers own.0 = own.1 in
      let told_same : told_in run ≡ told_in with.same = sym with.told in
      let written : IsWritten (IsText s.jobs) s.jobs given first s.budget report (string_bytes plain.output) =
      carried s.jobs given (core_with first (all_tapped watch first.servers)) s.budget report
      (string_bytes plain.output) tapped-reported tapped-text first.servers own.0 with own.3 in
      let not_listed : ¬ (is.end ≡ ends.Listed) = λ listed. (
      let open_ : IsEnd (jobs_of s.jobs given) s.budget last ends.Listed = subst (λ (e : End). IsEnd (jobs_of s.jobs given) s.budget last e) listed is.ends in
      over open_.1 open_.0
      ) in
      let kept : IsRecord watch s.jobs given first s.budget report written.0 = record {
        text = ap Some (is-record ∙ ap
            (λ (ts : List Told). record_of (recorded (port_of first.world) (λ e. seen_of watch (noted_of e.1 (heard_by e.0 ts))) first.servers)) told_same);
        small = subst (λ (ts : List Told). All (λ n. All IsNote n.1)
            (recorded (port_of first.world) (λ e. seen_of watch (noted_of e.1 (heard_by e.0 ts))) first.servers)) told_same is-small;
      } in
      (record { first = first; is_first = is_first; ran = rw is.report (written, not_listed, is.status, kept) }, is.finished)

-- ---- what is prepared of it

pub recorded-first : (s : Scenario) (given : Images) (watch : ℕ) (first last : Shown) (history : List Move) (made : Prepared)
    → IsFirstWith s (all_tapped watch) first.core → first.jobs ≡ jobs_of s.jobs given → first.budget ≡ s.budget → HasRun first history last → HasEnded last
    → IsTold s given last.core first.budget history made → ComesTo (IsRecordedFrom watch s given) (Ok made)
recorded-first s given watch first last history made is jobs budget run ended told =
    let begun = core_with is.first (all_tapped watch is.first.servers) in
    let goes : IsRun (house (jobs_of s.jobs given)) begun history last.core =
    subst (λ (f : RunCore). IsRun (house (jobs_of s.jobs given)) f history last.core) is.same
    (subst (λ (j : List Job). IsRun (house j) first.core history last.core) jobs run.run) in
    let over : IsOver (jobs_of s.jobs given) s.budget last.core =
    subst (λ (j : List Job). IsOver j s.budget last.core) (run.jobs ∙ jobs) (subst (λ b. IsOver last.jobs b last.core) (run.budget ∙ budget) ended) in
    let here : IsMade (IsText s.jobs) s.jobs given last.core s.budget history told.plain =
    subst (λ b. IsMade (IsText s.jobs) s.jobs given last.core b history told.plain) budget told.is_made in
    subst (λ (m : Prepared). IsRecordedFrom watch s given (outcome_of m) (string_bytes m.output) × (progress_of m.status ≡ Finished)) (sym told.told)
    (recorded-so s given watch is.first is.is_first last.core history goes told.plain here told.small over)
