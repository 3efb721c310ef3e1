-- How a run ends, in a core.
use Rattle.std.specs.Prelude.{ℕ, ◌<◌, ◌≤◌, List, Option, Some, None}
use Rattle.fk_model.specs.World.{World}
use Rattle.fk_report.specs.declared.end.End.{End}
use Rattle.laws_house.specs.Houses.{Job}
use Rattle.fk_report.specs.declared.end.End.TheVariants as ends
use Rattle.fk_report.specs.Threads.{HaveHalted}
use Rattle.fk_core.specs.Moment.Moments.{RunCore, IsAnyMove}

-- with no move ready: whether every user thread has halted
abbrev pub IsAtRest : World → End → Type 0
IsAtRest w ends.Halted = HaveHalted w
IsAtRest w ends.Quiet = ¬ HaveHalted w
IsAtRest w ends.Budget = ⊥
IsAtRest w ends.Listed = ⊥

-- how a run has ended in a core; it hasn't while a move is ready and the budget has one more
abbrev pub IsEnded : List Job → ℕ → RunCore → Option End → Type 0
IsEnded jobs budget c None = IsAnyMove jobs c × (c.events < budget)
IsEnded jobs budget c (Some ends.Budget) = IsAnyMove jobs c × (budget ≤ c.events)
IsEnded jobs budget c (Some ends.Halted) = (¬ IsAnyMove jobs c) × IsAtRest c.world ends.Halted
IsEnded jobs budget c (Some ends.Quiet) = (¬ IsAnyMove jobs c) × IsAtRest c.world ends.Quiet
IsEnded jobs budget c (Some ends.Listed) = ⊥
