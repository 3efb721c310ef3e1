use Rattle.std.proofs.Common.{sym, ◌∙◌}
use Rattle.fk_turns.proofs.InMoved.Filled.{stands_more}
use Rattle.fk_turns.proofs.moved.filling.add.Goals as goal

pub wake-requires : goal.wake-requires
wake-requires c = record {
  sound = c.in_ok-reserve.ensures.sound;
  waits = λ off. c.in_ok-reserve.ensures.waits;
  marks = λ off. c.in_ok-reserve.ensures.marks;
}

pub returns-in_ok-reserve-clause-stands : goal.returns-in_ok-reserve-clause-stands
returns-in_ok-reserve-clause-stands c =
    stands_more c.args.store.now c.args.who c.args.turns.now.waits c.reserve.new.self.waits c.wake.new.self.waits
    (sym c.is_user.ensures ∙ c.if-is_user.true) c.in_ok-reserve.ensures.ready c.in_ok-reserve.ensures.queued c.wake.ensures.waits
