use Rattle.std.proofs.lemmas.Bool.{OnTrue_at}
use Rattle.fk_calls.specs.declared.calls.going.Talked.TheVariants.{Sends}
use Rattle.fk_turns.proofs.InSteps.Talked.{kept_heard, kept_sent, receiver_stands}
use Rattle.fk_turns.proofs.steps.talking.tell_receiver.Goals as goal

pub rise-requires : goal.rise-requires
rise-requires c =
    let was = c.args.turns.now in
    let by = Sends c.args.client c.args.receiver c.args.sender in
    record {
      sound = c.requires.comes.kept.sound;
      stands = receiver_stands c.args.store.now c.args.mover by was.waits was.marks c.requires.comes;
    }

pub returns : goal.returns
returns c =
    let was = c.args.turns.now in
    let now = c.rise.new.self in
    kept_sent c.args.store.now c.args.mover c.args.client c.args.receiver c.args.sender was.waits was.marks now.waits now.marks c.requires.comes
    c.rise.ensures.waits c.rise.ensures.met c.rise.ensures.away c.rise.ensures.sound

pub returns-then-hears_still : goal.returns-then-hears_still
returns-then-hears_still c =
    let was = c.args.turns.now in
    kept_heard c.args.store.now c.args.mover c.args.client c.args.receiver c.args.sender was.waits was.marks c.requires.comes
    (OnTrue_at c.if-hears_still.true c.hears_still.ensures)
