use Rattle.std.proofs.Common.{map}
use Rattle.fk_migrate.specs.Pairs.{shown, Drives, IsDriven}
use Rattle.fk_migrate.proofs.driver.migrate.Given as goal

-- it was driven so far
abbrev pub invariant-loop : goal.invariant-loop
invariant-loop g l = IsDriven (map (λ r. r.rule) l.table.list.items) (shown l.pair) × Drives (map (λ r. r.rule) l.table.list.items) (shown l.fn.pair) (shown l.pair)
