use Rattle.fk_turns.proofs.whys.hearing.heard_at.Goals as goal

pub heard_by-requires : goal.heard_by-requires
heard_by-requires c = record { valid = c.requires.valid; unheld = c.is_any_held.ensures c.if-is_any_held.false; there = c.in-Some.ensures.thread }
