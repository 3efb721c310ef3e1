use Rattle.std.proofs.Common.{map}
use Rattle.fk_first.specs.Goings.{IsReachable}
use Rattle.fk_first.specs.Served.{AllFit}
use Rattle.lens_verbs.proofs.hunt.runs.go.Given as goal

-- the table fits the servers still, and the core was come to by a run
abbrev pub invariant-loop : goal.invariant-loop
invariant-loop g l = record {
  fits : AllFit (map (λ r. r.rule) l.table.list.items) l.core.services.list;
  come : IsReachable l.core;
}
