use Rattle.fk_turns.proofs.steps.talking.after_talk.Goals as goal

pub after_words-requires : goal.after_words-requires
after_words-requires c = record { valid = c.requires.valid; comes = rw c.in-Sends.is at c.requires.comes }

pub after_turn-requires : goal.after_turn-requires
after_turn-requires c = record { valid = c.requires.valid; comes = rw c.in-Passes.is at c.requires.comes }
