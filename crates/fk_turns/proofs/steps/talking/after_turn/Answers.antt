use Rattle.std.proofs.lemmas.Bool.{OnTrue_at}
use Rattle.fk_calls.specs.declared.calls.going.Talked.TheVariants.{Passes}
use Rattle.fk_turns.proofs.InSteps.Talked.{kept_passed, receiver_stands}
use Rattle.fk_turns.proofs.InSteps.Went.{off_anyway}
use Rattle.fk_turns.proofs.steps.talking.after_turn.Goals as goal

pub rise-requires : goal.rise-requires
rise-requires c =
    let was = c.args.turns.now in
    record {
      sound = c.requires.comes.kept.sound;
      stands = receiver_stands c.args.store.now c.args.mover (Passes c.args.client c.args.receiver) was.waits was.marks c.requires.comes;
    }

pub settle_unless-requires : goal.settle_unless-requires
settle_unless-requires c =
    let was = c.args.turns.now in
    let now = c.rise.new.self in
    record {
      valid = c.requires.valid;
      kept = kept_passed c.args.store.now c.args.mover c.args.client c.args.receiver was.waits was.marks now.waits now.marks c.requires.comes
          (OnTrue_at c.if-not-is_alone.false c.is_alone.ensures) c.rise.ensures.waits c.rise.ensures.met c.rise.ensures.away c.rise.ensures.sound;
    }

pub returns-then-not-is_alone-clause-placed : goal.returns-then-not-is_alone-clause-placed
returns-then-not-is_alone-clause-placed c = off_anyway c.args.stays c.after_any.ensures.placed
