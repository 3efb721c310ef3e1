use Rattle.std.proofs.Common.{◌-◌, ◌≤◌, length, map}
use Rattle.fk_host.specs.Served.{AllFit}
use Rattle.fk_pager.specs.Driven.{IsDriven, Drives}
use Rattle.fk_pager.proofs.driver.PagedRun.drive.Given as goal

abbrev pub invariant-loop-self : goal.invariant-loop-self
invariant-loop-self g l = record {
  driven : IsDriven l.self;
  drives : Drives l.fn.self l.self;
  fits : AllFit (map (λ r. r.rule) l.table.list.items) l.self.host.services.list;
  within : length l.fn.self.history.items ≤ l.budget → length l.self.history.items ≤ l.budget;
}

abbrev pub decreases-loop-self : goal.decreases-loop-self
decreases-loop-self g l = l.budget - length l.self.history.items
