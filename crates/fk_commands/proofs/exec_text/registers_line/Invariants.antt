use Rattle.std.proofs.Common.{◌≡◌, ◌++◌, drop, string_bytes, codes}
use Rattle.std.specs.List.{flat_map}
use Rattle.fk_commands.specs.ExecText.{register_text}
use Rattle.fk_commands.proofs.exec_text.registers_line.Given as goal

abbrev pub invariant-loop-register : goal.invariant-loop-register
invariant-loop-register l =
    string_bytes l.text ++ flat_map register_text (drop l.register-index l.registers) ≡ codes "regs" ++ flat_map register_text l.registers
