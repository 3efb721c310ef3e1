use Rattle.fk_turns.proofs.whys.whys.at_locked.Goals as goal

pub locked_before-requires : goal.locked_before-requires
locked_before-requires c = record { unheld = c.is_any_held.ensures c.if-is_any_held.false; there = c.in-Some.ensures.thread }
