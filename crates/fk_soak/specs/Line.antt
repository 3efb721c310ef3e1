-- The line that `soak` prints of a run.
use Rattle.std.specs.Prelude.{ℕ, ◌%◌, ◌^◌, List, ◌++◌, length, sum, codes, decimal}
use Rattle.std.specs.List.{flat_map}
use Rattle.fk_natives.specs.Natives.{State, printed_by}
use Rattle.fk_report.specs.declared.end.End.{End}
use Rattle.fk_report.specs.Report.{end_word}

-- how many processes there are, how the run has ended, how many words were sent, and their sum
abbrev pub line_of : ℕ → End → ℕ → ℕ → List ℕ
line_of count end words total =
    codes "soak " ++ (decimal count ++ (codes " end " ++ (end_word end ++
    (codes " words " ++ (decimal words ++ (codes " sum " ++ (decimal total ++ codes "\n")))))))

-- of what the consoles `p0` to `p(N - 1)` were sent, in which a scenario's servers begin; number and sum modulo 2^64
abbrev pub soak_line : ℕ → End → List State → List ℕ
soak_line count end consoles = let words = flat_map printed_by consoles in line_of count end (length words % 2 ^ 64) (sum words % 2 ^ 64)
