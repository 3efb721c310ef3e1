-- How a run ends, and what its servers are shown as.
use Rattle.std.proofs.Common.{◌≡◌, ℕ, zero, suc, ◌≤◌, List, [], ◌∷◌, map, take, Some, refl, ap, arith}
use Rattle.fk_model.specs.declared.names.Who.{Who}
use Rattle.fk_natives.specs.Natives.{State}
use Rattle.fk_report.specs.Report.{states}
use Rattle.fk_report.specs.declared.end.End.{End}
use Rattle.fk_report.specs.declared.end.End.TheVariants as ends
use Rattle.fk_first.specs.Served.{shown}
use Rattle.fk_first.specs.Cores.{RunCore}
use Rattle.fk_first.specs.Ends.{IsEnded}
use Rattle.fk_runs.specs.RunReports.Made.{IsEnd}
use Rattle.laws_house.specs.Houses.{Job}

pub states-shown : {S : Type 0} (meaning : S → State) (xs : List (Who × S)) → states meaning xs ≡ map (λ (e : Who × State). e.1) (shown meaning xs)
states-shown meaning [] = refl
states-shown meaning (x ∷ xs) = ap (λ ss. meaning x.1 ∷ ss) (states-shown meaning xs)

-- a run ends as its core has ended
pub ended-end : (jobs : List Job) (budget : ℕ) (c : RunCore) (end : End) → IsEnded jobs budget c (Some end) → c.events ≤ budget → IsEnd jobs budget c end
ended-end jobs budget c ends.Halted is within = is
ended-end jobs budget c ends.Quiet is within = is
ended-end jobs budget c ends.Budget is within = (is.0, (let used = is.1 in omega (arith, used, within)))
ended-end jobs budget c ends.Listed is within = absurd is

-- the states of the first servers
pub states-taken : {S : Type 0} (meaning : S → State) (count : ℕ) (xs : List (Who × S))
    → states meaning (take count xs) ≡ take count (map (λ (e : Who × State). e.1) (shown meaning xs))
states-taken meaning zero xs = refl
states-taken meaning (suc n) [] = refl
states-taken meaning (suc n) (x ∷ xs) = ap (λ ss. meaning x.1 ∷ ss) (states-taken meaning n xs)
