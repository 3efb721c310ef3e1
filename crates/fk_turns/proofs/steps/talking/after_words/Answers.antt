use Rattle.fk_turns.proofs.steps.talking.after_words.Goals as goal

pub settle_unless-requires : goal.settle_unless-requires
settle_unless-requires c = record { valid = c.requires.valid; kept = c.tell_receiver.ensures }
