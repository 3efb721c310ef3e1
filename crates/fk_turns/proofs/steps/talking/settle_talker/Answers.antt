use Rattle.fk_waits.proofs.InCauses.Numbers.{clash}
use Rattle.fk_waits.specs.Waits.Lists.{stands}
use Rattle.std.proofs.Common.{◌∙◌}
use Rattle.fk_turns.proofs.InNext.Placed.{kept_woken, placed_settled, placed_woken}
use Rattle.fk_turns.proofs.InSteps.Talked.{ready_user}
use Rattle.fk_turns.proofs.steps.talking.settle_talker.Goals as goal

pub wake-requires : goal.wake-requires
wake-requires c =
    let m = c.args.store.now in
    let user = ready_user m c.args.mover (rw c.in-Goes.is at c.place_of_talker.ensures) in
    let there = c.requires.kept.each c.args.mover ∙ user in
    record {
      sound = c.requires.kept.sound;
      waits = λ off. clash (stands c.args.mover c.args.turns.now.waits) there off;
      marks = λ off. clash (stands c.args.mover c.args.turns.now.waits) there off;
    }

pub settle_loud-requires : goal.settle_loud-requires
settle_loud-requires c =
    let is = rw c.in-Hears.is at c.place_of_talker.ensures in
    record { valid = c.requires.valid; kept = c.requires.kept; user = is.user; why = is.why; cause = is.cause }

pub returns-in-Goes-clause-kept : goal.returns-in-Goes-clause-kept
returns-in-Goes-clause-kept c =
    let m = c.args.store.now in
    kept_woken m c.args.mover c.args.turns.now.waits c.args.turns.now.marks c.wake.new.self.waits c.wake.new.self.marks c.requires.kept
    (ready_user m c.args.mover (rw c.in-Goes.is at c.place_of_talker.ensures)) c.wake.ensures.waits c.wake.ensures.met c.wake.ensures.less c.wake.ensures.sound

pub returns-in-Goes-clause-placed : goal.returns-in-Goes-clause-placed
returns-in-Goes-clause-placed c user =
    placed_woken c.args.store.now c.args.mover c.args.turns.now.waits c.wake.new.self.waits c.wake.ensures.waits (rw c.in-Goes.is at c.place_of_talker.ensures)

pub returns-in-Hears-clause-placed : goal.returns-in-Hears-clause-placed
returns-in-Hears-clause-placed c user =
    placed_settled c.args.store.now c.args.mover c.args.turns.now.waits c.settle_loud.new.turns.waits c.settle_loud.ensures.settled
    (λ up. c.settle_loud.ensures.unready up.0 up.1)
