use Rattle.std.proofs.Common.{◌≡◌, ◌≤◌, ◌+◌, ◌-◌, vec_len}
use Rattle.std.specs.Io.KnownBytes.{Consumes}
use Rattle.fk_causes.specs.declared.whole.TheConstants.{LIMIT}
use Rattle.fk_causes.proofs.whole.read_all.Given as goal

abbrev pub invariant-loop-buffer : goal.invariant-loop-buffer
invariant-loop-buffer g l = record {
  taken : Consumes (g.R.Source.left l.fn.source) (g.R.Source.left l.source) l.text.items;
  few : vec_len l.text ≤ LIMIT + 1;
  kept : g.R.Source.faults l.source ≡ g.R.Source.faults l.fn.source;
}

abbrev pub decreases-loop-buffer : goal.decreases-loop-buffer
decreases-loop-buffer g l = LIMIT + 1 - vec_len l.text
