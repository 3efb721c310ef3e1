use Rattle.std.proofs.Common.{◌≡◌, ◌++◌, string_bytes}
use Rattle.fk_report.specs.Paths as definitions
use Rattle.fk_report.proofs.paths.push_path.Given as goal

abbrev pub invariant-loop-slot : goal.invariant-loop-slot
invariant-loop-slot l =
    string_bytes l.text ++ definitions.path_text l.slot-iterator.iter.rest.now ≡ string_bytes l.fn.text ++ definitions.path_text l.path
