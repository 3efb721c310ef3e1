use Rattle.std.proofs.Common.{ap, ◌∙◌}
use Rattle.fk_waits.specs.Waits.Lists.{woken}
use Rattle.fk_waits.proofs.InTurns.Roused.{less_then}
use Rattle.fk_waits.proofs.InTurns.Woken.{room_left}
use Rattle.fk_waits.proofs.turns.turns.Turns.rename.Goals as goal

pub wake-requires : goal.wake-requires
wake-requires c =
    let was = c.args.self.now in
    let there = c.requires.stands in
    record {
      sound = c.forget.ensures.sound;
      waits = λ off. room_left c.args.from was.waits c.forget.new.self.waits there c.forget.ensures.waits;
      marks = λ off. room_left c.args.from was.marks c.forget.new.self.marks (c.requires.sound.both c.args.from ∙ there) c.forget.ensures.marks;
    }

pub returns-clause-waits : goal.returns-clause-waits
returns-clause-waits c = c.wake.ensures.waits ∙ ap (woken c.args.to) c.forget.ensures.waits

pub returns-clause-less : goal.returns-clause-less
returns-clause-less c = less_then c.args.self.now.waits c.forget.new.self.waits c.wake.new.self.waits c.forget.ensures.less c.wake.ensures.less
