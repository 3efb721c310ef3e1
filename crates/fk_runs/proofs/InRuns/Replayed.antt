-- A run plays again: its trace is one of legal moves.
use Rattle.std.proofs.Common.{◌≡◌, ℕ, ◌+◌, ◌≤◌, List, [], ◌∷◌, ◌++◌, length, length-append, refl, arith}
use Rattle.std.specs.List.{All}
use Rattle.std.proofs.lemmas.List.Elements.{All-nil, All-cons, All-head, All-tail}
use Rattle.fk_first.specs.Cores.{RunCore, house}
use Rattle.fk_model.specs.declared.moves.Move.{Move}
use Rattle.fk_model.specs.declared.job.JobSpec.{JobSpec}
use Rattle.fk_runs.specs.RunReports.Made.{Images}
use Rattle.fk_runs.specs.Runs.Runs.{RunPlaysAgain, begun}
use Rattle.fk_trace_text.specs.Trace.{IsMove, AreLegal}
use Rattle.fk_trace_text.proofs.Traces.{AreLegal-more, none_are_legal}
use Rattle.fk_workers.specs.Workers.Plays.{MayPlay}
use Rattle.laws_house.specs.Houses.{jobs_of}
use Rattle.laws_runs.specs.Cores.{IsRun, Begins, Goes}

front : {X : Type 0} (P : X → Type 0) (xs ys : List X) → All P (xs ++ ys) → All P xs
front P [] ys all = All-nil P
front P (x ∷ xs) ys all = All-cons P x xs (All-head P x (xs ++ ys) all) (front P xs ys (All-tail P x (xs ++ ys) all))

back : {X : Type 0} (P : X → Type 0) (xs ys : List X) → All P (xs ++ ys) → All P ys
back P [] ys all = all
back P (x ∷ xs) ys all = back P xs ys (All-tail P x (xs ++ ys) all)

pub legal : (specs : List JobSpec) (given : Images) (budget : ℕ) (first : RunCore) (moves : List Move) (last : RunCore)
    → IsRun (house (jobs_of specs given)) first moves last
    → All IsMove moves → length moves ≤ budget → AreLegal (MayPlay (begun specs given budget first)) moves
legal specs given budget first _ _ Begins ranges few = none_are_legal (MayPlay (begun specs given budget first))
legal specs given budget first _ _ (Goes past c m d run ready settles) ranges few =
    let longer : length (past ++ m ∷ []) ≡ length past + 1 = length-append past (m ∷ []) in
    AreLegal-more (MayPlay (begun specs given budget first)) past m
    (legal specs given budget first past c run (front IsMove past (m ∷ []) ranges) (omega (arith, few, longer)))
    (All-head IsMove m [] (back IsMove past (m ∷ []) ranges))
    (omega (arith, few, longer), (c, run, ready))

pub plays-again : RunPlaysAgain
plays-again specs given first budget status report text ranges ran =
    let is = ran.0.0 in (
      record { legal = legal specs given budget first report.history is.last is.run ranges is.within; spelled = refl },
      ran.0,
      ran.2,
      ran.3,
    )
