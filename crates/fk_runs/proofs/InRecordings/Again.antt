-- Runs come to the same by replays.
use Rattle.std.proofs.Common.{◌≡◌, ◌⊎◌, ℕ, List, [], ◌∷◌, map, length, Option, Some, None, refl, sym, ap, subst, ◌∙◌, inl, inr}
use Rattle.std.proofs.lemmas.List.{length-map}
use Rattle.std.proofs.lemmas.Option.{same_Some}
use Rattle.std.specs.List.{All}
use Rattle.fk_commands.specs.declared.outcome.Report.{Report}
use Rattle.fk_commands.specs.declared.status.Status.{Status}
use Rattle.fk_first.specs.Cores.{RunCore, house}
use Rattle.fk_first.specs.First.{IsFirst}
use Rattle.fk_model.specs.declared.names.Who.{Who}
use Rattle.fk_natives.specs.Natives.{State, seen_of}
use Rattle.fk_record_text.specs.Lines.{ArePorts}
use Rattle.fk_record_text.specs.Record.{Entry}
use Rattle.fk_record_text.specs.Whole as whole
use Rattle.fk_record_text.specs.Whole.{AreApart, record_of}
use Rattle.fk_record_text.specs.Record as records
use Rattle.fk_record_text.proofs.Wholes.{records_read_back}
use Rattle.fk_runs.proofs.InRecordings.Apart.{are-ports, are-apart}
use Rattle.fk_runs.proofs.InRecordings.Carried.{carried, reported}
use Rattle.fk_runs.proofs.InRecordings.SamePorts.{same-ports, are-fresh}
use Rattle.fk_runs.specs.Recordings.Again.{noted_replies, ReplaysPlayAgain, RecordPlaysAgain, without_record}
use Rattle.fk_runs.specs.Recordings.Ports.{ports_of}
use Rattle.fk_runs.specs.Recordings.Recording.{port_of, seen_in, IsRecordedFrom}
use Rattle.fk_runs.specs.Recordings.Replaying.{replies_by}
use Rattle.fk_responders.specs.Notes.{Note}
use Rattle.fk_runs.specs.RunReports.Made.{Images, IsText}
use Rattle.fk_runs.specs.Runs.Runs.{begun, IsPlayed, IsReported, IsWritten}
use Rattle.fk_runs.proofs.InRuns.Replayed.{legal}
use Rattle.fk_scenario.specs.declared.scenario.scenario.Scenario.{Scenario}
use Rattle.fk_first.specs.Served.{Services, servers}
use Rattle.fk_trace.specs.Posts.{all_replaying}
use Rattle.fk_trace_text.specs.Trace.{IsMove, Spells, trace_text}
use Rattle.fk_workers.specs.Books.Plays.{MayPlay}
use Rattle.laws_house.specs.Houses.{jobs_of}
use Rattle.fk_recorded.specs.Pair.{lists_of, recorded}
use Rattle.fk_recorded.proofs.Pairs.{posts, record_replays}
use Rattle.fk_recorded.specs.Following.{core_with, IsRunWith}
use Rattle.fk_recorded.specs.Notes.{all_replayed, notes_at, printed_of, replies_of}
use Rattle.fk_recorded.proofs.Noting.{replays_run}

-- ---- a run that replays go on with

module _ (s : Scenario) (given : Images) (first : RunCore) (report : Report) (text : List ℕ)
    (written : IsWritten (IsText s.jobs) s.jobs given first s.budget report text)
    (u v : Services) (with : IsRunWith written.0.run servers u v) (same : printed_of v ≡ printed_of written.0.last.servers)
    (ranges : All IsMove report.history) where
  abbrev there : RunCore
  there = core_with first u

  again-written : IsWritten (IsText s.jobs) s.jobs given there s.budget report text
  again-written = carried s.jobs given first s.budget report text written.0 written.1 u v with same

  again-spells : Spells (MayPlay (begun s.jobs given s.budget there)) (trace_text report.history) report.history
  again-spells = record {
    legal = legal s.jobs given s.budget there report.history again-written.0.last again-written.0.run ranges again-written.0.within;
    spelled = refl;
  }

pub replays_play_again : ReplaysPlayAgain
replays_play_again s given first trace status report text is_first played =
    let written = played.1 in
    let run = written.0.run in
    let lists = noted_replies s given first trace status report text played in
    let last = written.0.last in
    let fresh = are-fresh first.world first.servers s.servers is_first.servers in
    let all : all_replaying lists first.servers ≡ all_replayed (λ e. replies_of (notes_at run e)) first.servers =
    posts (port_of first.world) (λ e. notes_at run e) (λ e. replies_of (notes_at run e)) (λ e. refl) first.servers fresh in
    let goes = replays_run (house (jobs_of s.jobs given)) first last report.history run in
    let with : IsRunWith run servers (all_replaying lists first.servers) (all_replayed (λ e. []) last.servers) =
    subst (λ v. IsRunWith run servers v (all_replayed (λ e. []) last.servers)) (sym all) goes.0 in
    let ranges = played.0.legal.ranges in
    let spells = again-spells s given first report text written (all_replaying lists first.servers) (all_replayed (λ e. []) last.servers) with goes.1 ranges in
    record {
      first = first;
      is_first = is_first;
      played = (
        record { legal = spells.legal; spelled = played.0.spelled },
        again-written s given first report text written (all_replaying lists first.servers) (all_replayed (λ e. []) last.servers) with goes.1 ranges,
        played.2,
        played.3,
      );
    }

-- ---- a run that was recorded

-- the report without its record
bare-written : (s : Scenario) (given : Images) (first : RunCore) (report : Report) (text : List ℕ)
    → IsWritten (IsText s.jobs) s.jobs given first s.budget report text
    → IsWritten (IsText s.jobs) s.jobs given first s.budget (without_record report) text
bare-written s given first report text w = (
  record { last = w.0.last; run = w.0.run; within = w.0.within; end = w.0.end; jobs = w.0.jobs; images = w.0.images },
  record { threads = w.1.threads; are = w.1.are; written = w.1.written },
)

pub record_plays_again : RecordPlaysAgain
record_plays_again s given watch status report text record_ keeps sees ranges told is =
    let first = is.first in
    let written = is.ran.0 in
    let kept = is.ran.3 in
    let noted = seen_in watch s.jobs given first s.budget report written.0 in
    let ports : whole.ports_of noted ≡ ports_of s.servers = same-ports first.world (λ (e : Who × State). seen_of watch (notes_at written.0.run e)) first.servers
    s.servers is.is_first.servers in
    let are : ArePorts (whole.ports_of noted) = subst ArePorts (sym ports) (are-ports s keeps) in
    let apart : AreApart (whole.ports_of noted) = subst AreApart (sym ports) (are-apart s keeps) in
    let back = records_read_back noted apart kept.small in
    let entries = back.0 in
    let bytes : record_of noted ≡ record_ = same_Some _ _ (sym kept.text ∙ told) in
    let spelled : records.Spells (ports_of s.servers) record_ entries =
    subst (λ (ps : List (List ℕ)). records.Spells ps record_ entries) ports
    (subst (λ (bs : List ℕ). records.Spells (whole.ports_of noted) bs entries) bytes back.1.spells) in
    let goes = record_replays (house (jobs_of s.jobs given)) first written.0.last report.history written.0.run
    (are-fresh first.world first.servers s.servers is.is_first.servers) watch sees (port_of first.world) are apart kept.small entries back.1.spells in
    let long : length noted ≡ length (ports_of s.servers) = sym (length-map noted (λ (n : List ℕ × List Note). n.0)) ∙ ap length ports in
    let us = λ (n : ℕ). all_replaying (lists_of entries 0 n) first.servers in
    let v = all_replayed (λ e. []) written.0.last.servers in
    let with : IsRunWith written.0.run servers (us (length (ports_of s.servers))) v = subst (λ n. IsRunWith written.0.run servers (us n) v) long goes.0 in
    let u = us (length (ports_of s.servers)) in
    inr (
      entries,
      spelled,
      record {
        first = first;
        is_first = is.is_first;
        played = (
          again-spells s given first report text written u v with goes.1 ranges,
          bare-written s given (core_with first u) report text (again-written s given first report text written u v with goes.1 ranges),
          is.ran.2,
          refl,
        );
      },
    )
