-- What comes of a record, or of its refusal.
use Rattle.std.proofs.Common.{◌≡◌, ◌≤◌, ℕ, List, Result, Err, refl, subst, inl, inr}
use Rattle.fk_commands.specs.declared.prepared.Prepared.{Prepared}
use Rattle.fk_commands.specs.declared.status.Status.{Status}
use Rattle.fk_commands.specs.declared.status.Status.TheVariants.{Ok as Done, Usage, TooLong, BadText, BadScenario, Absent, BadImage, BadTrace, JobRefused}
use Rattle.fk_commands.specs.declared.status.Status.TheVariants.{Budget, ReadFault, WriteFault, ShelfFault, NoMemory, NotPaged, BadRecord}
use Rattle.fk_commands.specs.Prepared.{ComesTo, IsRefusal}
use Rattle.fk_commands.proofs.Comes.{comes-also}
use Rattle.fk_first.specs.Cores.{RunCore}
use Rattle.fk_record_text.specs.Record as records
use Rattle.fk_first.specs.First.{IsFirstWith}
use Rattle.fk_runs.specs.Recordings.Ports.{ports_of}
use Rattle.fk_runs.specs.Recordings.Replaying.{replies_by, IsRecordFail, IsReplayedBy}
use Rattle.fk_runs.specs.RunReports.Made.{Images}
use Rattle.fk_runs.specs.Runs.Runs.{IsPlayed}
use Rattle.fk_scenario.specs.declared.scenario.scenario.Scenario.{Scenario}
use Rattle.fk_trace.specs.Posts.{all_replaying}

module _ (s : Scenario) (given : Images) (trace record_ : List ℕ) where
  -- one that isn't read
  pub bad-record : (status : Status) → IsRecordFail (ports_of s.servers) record_ status → ComesTo (IsReplayedBy s given trace record_) (Err status)
  bad-record Done fail = absurd fail
  bad-record Usage fail = absurd fail
  bad-record TooLong fail = absurd fail
  bad-record (BadText line reason) fail = absurd fail
  bad-record (BadScenario rule section index) fail = absurd fail
  bad-record (Absent name) fail = absurd fail
  bad-record (BadImage name offset reason) fail = absurd fail
  bad-record (BadTrace index) fail = absurd fail
  bad-record (JobRefused job) fail = absurd fail
  bad-record (Budget budget) fail = absurd fail
  bad-record ReadFault fail = absurd fail
  bad-record WriteFault fail = absurd fail
  bad-record ShelfFault fail = absurd fail
  bad-record NoMemory fail = tt
  bad-record NotPaged fail = absurd fail
  bad-record (BadRecord line) fail = inl (line, fail, (refl, refl))

  pub bad-refusal : (status : Status) → IsRecordFail (ports_of s.servers) record_ status → IsRefusal ⊥ ⊥ status
  bad-refusal Done fail = fail
  bad-refusal Usage fail = fail
  bad-refusal TooLong fail = tt
  bad-refusal (BadText line reason) fail = tt
  bad-refusal (BadScenario rule section index) fail = tt
  bad-refusal (Absent name) fail = tt
  bad-refusal (BadImage name offset reason) fail = tt
  bad-refusal (BadTrace index) fail = tt
  bad-refusal (JobRefused job) fail = fail
  bad-refusal (Budget budget) fail = fail
  bad-refusal ReadFault fail = fail
  bad-refusal WriteFault fail = fail
  bad-refusal ShelfFault fail = fail
  bad-refusal NoMemory fail = tt
  bad-refusal NotPaged fail = tt
  bad-refusal (BadRecord line) fail = tt

  -- and one that is
  pub replayed-by : (entries : List records.Entry) (replies : List (List (List ℕ))) (core : RunCore) (budget : ℕ) (r : Result Prepared Status)
      → records.Spells (ports_of s.servers) record_ entries → replies ≡ replies_by s entries → IsFirstWith s (all_replaying replies) core → budget ≡ s.budget
      → ComesTo (λ outcome. IsPlayed s.jobs given core budget trace outcome.status outcome.report) r → ComesTo (IsReplayedBy s given trace record_) r
  replayed-by entries replies core budget r spells same is within comes =
      let first : IsFirstWith s (all_replaying (replies_by s entries)) core = subst (λ ls. IsFirstWith s (all_replaying ls) core) same is in
      comes-also (λ outcome. IsPlayed s.jobs given core budget trace outcome.status outcome.report) (IsReplayedBy s given trace record_)
      (λ outcome text played. inr (
        entries,
        spells,
        record {
          first = first.first;
          is_first = first.is_first;
          played = subst (λ (c : RunCore). IsPlayed s.jobs given c s.budget trace outcome.status outcome.report text) first.same
              (subst (λ b. IsPlayed s.jobs given core b trace outcome.status outcome.report text) within played);
        },
      )) r comes
