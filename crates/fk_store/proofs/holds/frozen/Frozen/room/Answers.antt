use Rattle.std.proofs.Common.{◌∙◌}
use Rattle.fk_store.proofs.InHolds.FrozenLaws.{mark_pushed}
use Rattle.fk_store.proofs.holds.frozen.Frozen.room.Goals as goal

pub loop-self-preserved : goal.loop-self-preserved
loop-self-preserved c = rw c.push.ensures.items (λ n. mark_pushed _ _ n ∙ c.loop-self.invariant n)
