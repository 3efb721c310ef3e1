-- What is prepared of the run in a book.
use Rattle.std.proofs.Common.{◌≡◌, ℕ, ◌≤◌, List, length, subst, arith}
use Rattle.fk_commands.specs.declared.prepared.Prepared.{Prepared}
use Rattle.fk_commands.specs.declared.outcome.Report.{Report}
use Rattle.fk_first.specs.Cores.{RunCore}
use Rattle.fk_model.specs.declared.job.JobSpec.{JobSpec}
use Rattle.fk_model.specs.declared.moves.Move.{Move}
use Rattle.fk_runs.specs.RunReports.Made.{Images, IsMade}
use Rattle.fk_workers.specs.Workers.Shown.{Shown, HasRun}

-- its core has made no more moves than its budget
pub counted : (first last : Shown) (history : List Move) → HasRun first history last → last.core.events ≤ last.budget
counted first last history run =
    let events = run.events in
    let within = run.within in
    let budget = run.budget in
    omega (arith, events, within, budget)

pub few : (first last : Shown) (history : List Move) → HasRun first history last → length history ≤ last.budget
few first last history run =
    let within = run.within in
    let budget = run.budget in
    omega (arith, within, budget)

-- the same of a core, a budget and moves that are those of the book
pub made_of : (Is : RunCore → Report → List ℕ → Type 0) (specs : List JobSpec) (given : Images) (core last : RunCore) (budget first : ℕ)
    (moves history : List Move) (made : Prepared) → core ≡ last → budget ≡ first → moves ≡ history → IsMade Is specs given core budget moves made
    → IsMade Is specs given last first history made
made_of Is specs given core last budget first moves history made here same is m =
    subst (λ (c : RunCore). IsMade Is specs given c first history made) here
    (subst (λ b. IsMade Is specs given core b history made) same (subst (λ (h : List Move). IsMade Is specs given core budget h made) is m))
