-- The command `exec`: what a text comes to.
use Rattle.std.specs.Prelude.{◌≡◌, ℕ, List, Option, Some, None, Result, Ok, Err}
use Rattle.fk_asm.specs.declared.fail.AsmError.{AsmError}
use Rattle.fk_commands.specs.declared.status.Status.{Status}
use Rattle.fk_commands.specs.declared.status.Status.TheVariants as ends
use Rattle.fk_commands.specs.declared.outcome.Outcome.{Outcome}
use Rattle.fk_commands.specs.ExecText.{exec_text}
use Rattle.fk_lone.specs.Machine.{State, start, run, events}
use Rattle.fk_commands.specs.Outcomes.{without_report, IsRefused}

-- the thread of a program after its run, which makes at most 100000 instructions
abbrev pub state_after : List ℕ → State
state_after program = run 100000 (start program)

-- a thread that halted is done, whatever its code
abbrev pub status_of_run : Option ℕ → Status
status_of_run (Some code) = ends.Ok
status_of_run None = ends.Budget 100000

-- what is written of a program: how its run ended
abbrev pub text_of_run : List ℕ → List ℕ
text_of_run program = exec_text (state_after program).halted (events 100000 (start program)) (state_after program).registers

-- a text that isn't assembled is refused with its line and the reason, and a program is run
abbrev pub IsExec : Result (List ℕ) AsmError → Outcome → List ℕ → Type 0
IsExec (Err error) outcome text = IsRefused (ends.BadText error.line error.reason) outcome text
IsExec (Ok program) outcome text = (outcome ≡ without_report (status_of_run (state_after program).halted)) × (text ≡ text_of_run program)
