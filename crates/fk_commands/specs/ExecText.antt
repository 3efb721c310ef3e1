-- What `exec` writes.
use Rattle.std.specs.Prelude.{ℕ, List, ◌++◌, Option, Some, None, codes, decimal}
use Rattle.std.specs.List.{flat_map}

-- the code of the halt, or that the budget was used, and how many instructions were made
abbrev pub end_line : Option ℕ → ℕ → List ℕ
end_line (Some code) events = codes "halt " ++ (decimal code ++ (codes " events " ++ (decimal events ++ codes "\n")))
end_line None events = codes "budget events " ++ (decimal events ++ codes "\n")

-- a word after a space
abbrev pub register_text : ℕ → List ℕ
register_text register = codes " " ++ decimal register

-- the registers, from r0 on
abbrev pub registers_line : List ℕ → List ℕ
registers_line registers = codes "regs" ++ (flat_map register_text registers ++ codes "\n")

-- two lines: how the thread ended, and its registers
abbrev pub exec_text : Option ℕ → ℕ → List ℕ → List ℕ
exec_text halted events registers = end_line halted events ++ registers_line registers
