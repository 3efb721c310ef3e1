use Rattle.std.proofs.Common.{◌∙◌}
use Rattle.fk_turns.proofs.InSteps.Risen.{kept_risen}
use Rattle.fk_turns.proofs.steps.signalling.rise.Goals as goal

pub rise-requires : goal.rise-requires
rise-requires c =
    let from = c.requires.comes in
    record { sound = from.kept.sound; stands = from.kept.each c.args.other ∙ from.was }

pub returns : goal.returns
returns c =
    let was = c.args.turns.now in
    let now = c.rise.new.self in
    record {
      kept = kept_risen c.args.store.now c.args.mover c.args.other was.waits was.marks c.requires.comes c.requires.user now.waits now.marks
          c.rise.ensures.waits c.rise.ensures.met c.rise.ensures.less c.rise.ensures.away c.rise.ensures.sound;
    }
