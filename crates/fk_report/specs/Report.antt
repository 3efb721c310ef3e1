-- The report of a run.
use Rattle.std.specs.Prelude.{ℕ, List, [], ◌++◌, map, Option, Some, None, codes, decimal}
use Rattle.std.specs.List.{flat_map}
use Rattle.fk_model.specs.declared.thread.Mode.{Mode}
use Rattle.fk_model.specs.declared.thread.Mode.TheVariants.{Running, Calling, Halted, Native}
use Rattle.fk_model.specs.declared.names.Who.{Who}
use Rattle.fk_natives.specs.Natives.{State, alias_of, printed_by}
use Rattle.fk_model.specs.declared.job.JobSpec.{JobSpec}
use Rattle.fk_report.specs.Paths.{path_text}
use Rattle.fk_report.specs.Jobs.{lines_from}
use Rattle.fk_report.specs.declared.job_end.JobEnd.{JobEnd}
use Rattle.fk_report.specs.declared.end.End.{End}
use Rattle.fk_report.specs.declared.end.End.TheVariants as ends
use Rattle.fk_report.specs.declared.threads.ThreadState.{ThreadState}

-- what a user thread is about
abbrev pub mode_text : Mode → List ℕ
mode_text Running = codes " running\n"
mode_text Calling = codes " calling\n"
mode_text (Halted code) = codes " halted " ++ (decimal code ++ codes "\n")
mode_text Native = []

-- a user thread: its path, and what it is about; a thread that is no program's has no line
abbrev pub thread_line_of : List ℕ → Mode → List ℕ
thread_line_of path Native = []
thread_line_of path mode = codes "thread " ++ (path ++ mode_text mode)

abbrev pub thread_line : ThreadState → List ℕ
thread_line thread = thread_line_of (path_text thread.path) thread.mode

-- how a run has ended, as a word
abbrev pub end_word : End → List ℕ
end_word ends.Halted = codes "halted"
end_word ends.Quiet = codes "quiet"
end_word ends.Budget = codes "budget"
end_word ends.Listed = codes "listed"

-- how many moves were made, and how the run ended
abbrev pub end_lines : ℕ → End → List ℕ
end_lines events end = codes "events " ++ (decimal events ++ (codes "\nend " ++ (end_word end ++ codes "\n")))

-- a word after a space
abbrev pub word_text : ℕ → List ℕ
word_text word = codes " " ++ decimal word

-- a console: its alias, and each word that it was sent
abbrev pub out_of : Option (List ℕ) → List ℕ → List ℕ
out_of None words = []
out_of (Some alias) words = codes "out " ++ (alias ++ (flat_map word_text words ++ codes "\n"))

abbrev pub out_line : State → List ℕ
out_line state = out_of (alias_of state) (printed_by state)

-- what servers are, each at its port
abbrev pub states : {S : Type 0} → (S → State) → List (Who × S) → List State
states meaning services = map (λ e. meaning e.1) services

-- the lines of consoles and of user threads
abbrev pub outs_text : List State → List ThreadState → List ℕ
outs_text states threads = flat_map out_line states ++ flat_map thread_line threads

-- the whole report: how it ended, a line for each job, for each console and for each user thread
abbrev pub run_text : ℕ → End → List JobSpec → List (Option JobEnd) → List State → List ThreadState → List ℕ
run_text events end jobs fates states threads = end_lines events end ++ (lines_from fates 0 jobs ++ outs_text states threads)
