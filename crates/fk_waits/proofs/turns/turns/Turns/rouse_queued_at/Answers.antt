use Rattle.std.proofs.Common.{refl, sym, subst}
use Rattle.fk_waits.specs.Waits.Lists.{stands, Lists}
use Rattle.fk_waits.proofs.InCauses.Numbers.{clash}
use Rattle.fk_waits.proofs.InTurns.Firsts.{fewer_left}
use Rattle.fk_waits.specs.Turns.Turns.{IsSound}
use Rattle.fk_waits.proofs.InTurns.Roused.{at_stands, none_at, roused_by, roused_none}
use Rattle.fk_waits.proofs.InTurns.Woken.{sound_stays}
use Rattle.fk_waits.proofs.turns.turns.Turns.rouse_queued_at.Goals as goal

pub loop-who-init : goal.loop-who-init
loop-who-init c = record { roused = roused_none c.args.self.now.waits; marks = refl }

pub wake-requires : goal.wake-requires
wake-requires c off =
    let waits = c.loop-who.self.waits in clash (stands c.in-Some.who waits) (at_stands c.args.key c.in-Some.who waits c.in-Some.ensures) off

pub loop-who-preserved : goal.loop-who-preserved
loop-who-preserved c =
    let now = c.loop-who.self in
    record {
      roused = roused_by c.args.self.now.waits now.waits c.wake.new.self c.in-Some.who c.loop-who.invariant.roused
          (at_stands c.args.key c.in-Some.who now.waits c.in-Some.ensures) c.wake.ensures;
      marks = c.loop-who.invariant.marks;
    }

pub loop-who-smaller : goal.loop-who-smaller
loop-who-smaller c = fewer_left c.args.key c.in-Some.who c.loop-who.self.waits c.wake.new.self c.once.ensures c.in-Some.ensures c.wake.ensures

pub returns-clause-sound : goal.returns-clause-sound
returns-clause-sound c =
    let was = c.args.self.now in
    let now = c.loop-who.self in
    subst (λ (l : Lists). IsSound now.waits l) (sym c.loop-who.invariant.marks)
    (sound_stays was.waits was.marks now.waits c.requires.sound c.loop-who.invariant.roused.stays)

pub returns-clause-none : goal.returns-clause-none
returns-clause-none c = none_at c.args.key c.loop-who.self.waits.queued c.in_default.ensures
