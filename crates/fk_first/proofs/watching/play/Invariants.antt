use Rattle.std.proofs.Common.{map}
use Rattle.fk_core.specs.Cores.Goings.{IsReachable}
use Rattle.fk_core.specs.Cores.Served.{AllFit}
use Rattle.fk_first.proofs.watching.play.Given as goal

-- the table fits the servers still, and the core was come to by a run
abbrev pub invariant-loop-index : goal.invariant-loop-index
invariant-loop-index g l = record {
  fits : AllFit (map (λ r. r.rule) l.table.list.items) l.core.services.list;
  come : IsReachable l.core;
}
