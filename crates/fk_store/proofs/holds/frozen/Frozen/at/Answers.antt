use Rattle.std.proofs.Common.{arith}
use Rattle.fk_store.proofs.InHolds.FrozenLaws.{mark_root, mark_read, mark_past}
use Rattle.fk_store.proofs.holds.frozen.Frozen.at.Goals as goal

pub returns-then-space-eq0 : goal.returns-then-space-eq0
returns-then-space-eq0 c = mark_root _ c.args.space (omega arith)

pub returns-then-at-len : goal.returns-then-at-len
returns-then-at-len c = rw (← c.self.view_is) (mark_read _ c.args.space _ (λ is. absurd (omega (arith, is))) (omega arith) c.index.ensures)

pub returns-else-at-len : goal.returns-else-at-len
returns-else-at-len c = rw (← c.self.view_is) (mark_past _ c.args.space (λ is. absurd (omega (arith, is))) (omega arith))
