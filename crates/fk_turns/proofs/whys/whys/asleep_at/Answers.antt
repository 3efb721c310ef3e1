use Rattle.fk_turns.proofs.whys.whys.asleep_at.Goals as goal

pub asleep_before-requires : goal.asleep_before-requires
asleep_before-requires c = record { unheld = c.is_any_held.ensures c.if-is_any_held.false; there = c.in-Some.ensures.thread }
