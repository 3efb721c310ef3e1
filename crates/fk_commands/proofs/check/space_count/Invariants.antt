use Rattle.std.proofs.Common.{◌≡◌, ◌+◌, drop}
use Rattle.fk_commands.specs.Check.{space_count}
use Rattle.fk_commands.proofs.check.space_count.Given as goal

abbrev pub invariant-loop-entry : goal.invariant-loop-entry
invariant-loop-entry l = l.count + space_count (drop l.entry-index l.entries) ≡ space_count l.entries
