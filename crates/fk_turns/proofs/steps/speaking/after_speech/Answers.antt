use Rattle.fk_turns.proofs.InSteps.Speaking.{kept_told}
use Rattle.fk_turns.proofs.steps.speaking.after_speech.Goals as goal

pub after_yield-requires : goal.after_yield-requires
after_yield-requires c = record { valid = c.requires.valid; comes = rw c.in-Over.is at c.requires.comes }

pub returns-in-Words : goal.returns-in-Words
returns-in-Words c =
    let was = c.args.turns.now in
    kept_told c.args.store.now c.args.mover was.waits was.marks _ (rw c.in-Words.is at c.requires.comes)
