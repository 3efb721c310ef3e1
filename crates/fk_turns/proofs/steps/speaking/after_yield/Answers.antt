use Rattle.std.proofs.lemmas.Bool.{OnTrue_at}
use Rattle.fk_turns.proofs.InSteps.Speaking.{kept_yielded}
use Rattle.fk_turns.proofs.steps.speaking.after_yield.Goals as goal

pub after_own-requires : goal.after_own-requires
after_own-requires c = record { valid = c.requires.valid; comes = c.requires.comes.after }

pub rest_talker-requires : goal.rest_talker-requires
rest_talker-requires c =
    let was = c.args.turns.now in
    record {
      valid = c.requires.valid;
      kept = kept_yielded c.args.store.now c.args.mover was.waits was.marks c.args.port c.requires.comes
          (OnTrue_at c.if-not-serves_nobody.false c.serves_nobody.ensures);
    }
