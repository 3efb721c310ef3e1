-- How a run with a pager ends.
use Rattle.std.specs.Prelude.{ℕ, ◌≤◌, ◌⊎◌, Option}
use Rattle.fk_model.specs.declared.moves.Move.{Move}
use Rattle.fk_model.specs.Places.{Path}
use Rattle.fk_model.specs.World.{World}
use Rattle.fk_host.specs.Acts.{IsReadyAsked}
use Rattle.fk_host.specs.Events as events
use Rattle.fk_report.specs.declared.end.End.{End}
use Rattle.fk_report.specs.declared.end.End.TheVariants as ends
use Rattle.fk_report.specs.Threads.{HaveHalted}
use Rattle.laws_filled.specs.Pager.{Desk, IsOwn}
use Rattle.fk_pager.specs.Runs.{Moment}

-- the pager's call is ready, and its pick has a fault of the pager's, where it needs one
abbrev pub IsPagerReady : Desk → Moment → Type 0
IsPagerReady d at = (pick : Option Path) × IsOwn d at.world at.state pick

-- a user's or a native server's move is ready, by names; or a user's, wherever it stands
abbrev pub IsOtherReady : Moment → Type 0
IsOtherReady at = ((m : Move) × IsReadyAsked at.services at.world m) ⊎ events.IsAnyReady at.world

abbrev pub IsAnyReady : Desk → Moment → Type 0
IsAnyReady d at = IsPagerReady d at ⊎ IsOtherReady at

-- where no move is ready: whether every user thread has halted
abbrev pub IsAtRest : World → End → Type 0
IsAtRest w ends.Halted = HaveHalted w
IsAtRest w ends.Quiet = HaveHalted w → ⊥
IsAtRest w ends.Budget = ⊥
IsAtRest w ends.Listed = ⊥

-- how a run has ended that has made so many moves: with the budget used while a move is ready, or with none ready
abbrev pub IsEnd : Desk → (budget made : ℕ) → Moment → End → Type 0
IsEnd d budget made at ends.Budget = IsAnyReady d at × (budget ≤ made)
IsEnd d budget made at ends.Halted = (IsAnyReady d at → ⊥) × IsAtRest at.world ends.Halted
IsEnd d budget made at ends.Quiet = (IsAnyReady d at → ⊥) × IsAtRest at.world ends.Quiet
IsEnd d budget made at ends.Listed = ⊥
