use Rattle.std.proofs.Common.{refl, sym, ap, ◌∙◌}
use Rattle.fk_waits.specs.Waits.Lists.{stands, Lists}
use Rattle.fk_waits.proofs.InCauses.Numbers.{clash}
use Rattle.fk_waits.specs.Turns.Turns.{free_cause}
use Rattle.fk_waits.proofs.InTurns.Roused.{at_stands, fewer_parked, freed_at, met_more, met_none, none_at, others_parked, roused_by, roused_none}
use Rattle.fk_waits.proofs.InTurns.Woken.{room_parked}
use Rattle.fk_waits.proofs.turns.turns.Turns.rouse_marked_at.Goals as goal

pub loop-who-init : goal.loop-who-init
loop-who-init c = record {
  sound = c.requires.sound;
  roused = roused_none c.args.self.now.waits;
  met = met_none c.args.self.now.marks c.args.self.now.waits;
  room = refl;
}

pub wake-requires : goal.wake-requires
wake-requires c =
    let now = c.loop-who.self in
    let there = sym (c.loop-who.invariant.sound.both c.in-Some.who) ∙ at_stands c.args.key c.in-Some.who now.marks c.in-Some.ensures in
    record {
      sound = c.loop-who.invariant.sound;
      waits = λ off. clash (stands c.in-Some.who now.waits) there off;
      marks = λ off. clash (stands c.in-Some.who now.waits) there off;
    }

pub loop-who-preserved : goal.loop-who-preserved
loop-who-preserved c =
    let was = c.args.self.now in
    let now = c.loop-who.self in
    let then_so = c.wake.new.self in
    let kept = c.loop-who.invariant in
    let there = sym (kept.sound.both c.in-Some.who) ∙ at_stands c.args.key c.in-Some.who now.marks c.in-Some.ensures in
    record {
      sound = c.wake.ensures.sound;
      roused = roused_by was.waits now.waits then_so.waits c.in-Some.who kept.roused there c.wake.ensures.waits;
      met = met_more was.marks now.marks now.waits then_so.marks then_so.waits c.in-Some.who kept.met
          (ap (λ (l : Lists). l.ready) c.wake.ensures.marks)
          (others_parked c.in-Some.who free_cause now.marks then_so.marks c.wake.ensures.marks)
          (ap (λ (l : Lists). l.queued) c.wake.ensures.waits);
      room = room_parked c.in-Some.who free_cause now.marks then_so.marks (at_stands c.args.key c.in-Some.who now.marks c.in-Some.ensures) c.wake.ensures.marks
          ∙ kept.room;
    }

pub loop-who-smaller : goal.loop-who-smaller
loop-who-smaller c =
    fewer_parked c.args.key free_cause c.in-Some.who c.loop-who.self.marks c.wake.new.self.marks c.requires.named c.once.ensures c.in-Some.ensures
    c.wake.ensures.marks

pub returns-clause-freed : goal.returns-clause-freed
returns-clause-freed c =
    freed_at c.args.key c.args.self.now.marks c.loop-who.self.marks c.loop-who.self.waits c.loop-who.invariant.met
    (none_at c.args.key c.loop-who.self.marks.queued c.in_default.ensures)
