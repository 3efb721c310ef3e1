use Rattle.fk_turns.proofs.steps.talking.after_any.Goals as goal

pub after-requires : goal.after-requires
after-requires c = record { valid = c.requires.valid; comes = c.requires.comes.after }
