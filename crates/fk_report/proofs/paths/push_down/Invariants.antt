use Rattle.std.proofs.Common.{◌≡◌, ◌++◌, drop, string_bytes}
use Rattle.fk_report.specs.Paths as definitions
use Rattle.fk_report.proofs.paths.push_down.Given as goal

abbrev pub invariant-loop-slot : goal.invariant-loop-slot
invariant-loop-slot l = string_bytes l.text ++ definitions.down_text (drop l.slot-index l.path) ≡ string_bytes l.fn.text ++ definitions.down_text l.path
