-- What comes of a first core is what comes of its scenario.
use Rattle.std.proofs.Common.{◌≡◌, ℕ, List, [], Result, subst}
use Rattle.fk_commands.specs.declared.prepared.Prepared.{Prepared}
use Rattle.fk_commands.specs.declared.status.Status.{Status}
use Rattle.fk_commands.specs.Prepared.{ComesTo}
use Rattle.fk_commands.proofs.Comes.{comes-also}
use Rattle.fk_first.specs.Cores.{RunCore}
use Rattle.fk_first.specs.First.{IsFirst}
use Rattle.fk_runs.specs.RunReports.Made.{IsText, IsLine, Images}
use Rattle.fk_runs.specs.Runs.Runs.{IsPlayed, IsAlone, IsPlayedFrom, IsRunFrom, IsSoakFrom}
use Rattle.fk_scenario.specs.declared.scenario.scenario.Scenario.{Scenario}

pub played-from : (s : Scenario) (given : Images) (trace : List ℕ) (first : RunCore) (budget : ℕ) (r : Result Prepared Status) → IsFirst s first
    → budget ≡ s.budget
    → ComesTo (λ outcome. IsPlayed s.jobs given first budget trace outcome.status outcome.report) r → ComesTo (IsPlayedFrom s given trace) r
played-from s given trace first budget r is same comes =
    comes-also (λ outcome. IsPlayed s.jobs given first budget trace outcome.status outcome.report) (IsPlayedFrom s given trace)
    (λ outcome text played. record {
      first = first;
      is_first = is;
      played = subst (λ b. IsPlayed s.jobs given first b trace outcome.status outcome.report text) same played;
    }) r comes

pub run-from : (s : Scenario) (given : Images) (first : RunCore) (budget : ℕ) (r : Result Prepared Status) → IsFirst s first → budget ≡ s.budget
    → ComesTo (λ outcome. IsAlone (IsText s.jobs) s.jobs given first budget outcome.status outcome.report) r → ComesTo (IsRunFrom s given) r
run-from s given first budget r is same comes =
    comes-also (λ outcome. IsAlone (IsText s.jobs) s.jobs given first budget outcome.status outcome.report) (IsRunFrom s given)
    (λ outcome text ran. record {
      first = first;
      is_first = is;
      ran = subst (λ b. IsAlone (IsText s.jobs) s.jobs given first b outcome.status outcome.report text) same ran;
    }) r comes

pub soak-from : (count : ℕ) (s : Scenario) (first : RunCore) (budget : ℕ) (r : Result Prepared Status) → IsFirst s first → budget ≡ s.budget
    → ComesTo (λ outcome. IsAlone (IsLine count) s.jobs [] first budget outcome.status outcome.report) r → ComesTo (IsSoakFrom count s) r
soak-from count s first budget r is same comes =
    comes-also (λ outcome. IsAlone (IsLine count) s.jobs [] first budget outcome.status outcome.report) (IsSoakFrom count s)
    (λ outcome text ran. record {
      first = first;
      is_first = is;
      ran = subst (λ b. IsAlone (IsLine count) s.jobs [] first b outcome.status outcome.report text) same ran;
    }) r comes
