use Rattle.std.proofs.Common.{◌≡◌, ◌-◌, ◌++◌, string_bytes}
use Rattle.fk_gen.specs.Soak.{processes_from}
use Rattle.fk_gen.proofs.scenario.processes.Given as goal

abbrev pub invariant-loop-process : goal.invariant-loop-process
invariant-loop-process l = string_bytes l.text ++ processes_from l.process (l.count - l.process) ≡ processes_from 0 l.count
