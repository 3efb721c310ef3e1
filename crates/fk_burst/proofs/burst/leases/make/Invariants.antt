use Rattle.std.proofs.Common.{◌≡◌, ◌+◌, ◌-◌, Some}
use Rattle.laws_bursts.specs.Bursts.{made, run, count}
use Rattle.fk_burst.specs.Copies.Copies.{burst_of}
use Rattle.fk_burst.proofs.burst.leases.make.Given as goal

-- so many are made, and the rest leads to the end of the whole run, and to its number of instructions
abbrev pub invariant-loop-event : goal.invariant-loop-event
invariant-loop-event l = record {
  made : made l.event (burst_of l.fn.copied) ≡ Some (burst_of l.copied);
  rest : run (l.most - l.event) (burst_of l.copied) ≡ run l.most (burst_of l.fn.copied);
  first : l.copied.first ≡ l.fn.copied.first;
  count : l.event + count (l.most - l.event) (burst_of l.copied) ≡ count l.most (burst_of l.fn.copied);
}
