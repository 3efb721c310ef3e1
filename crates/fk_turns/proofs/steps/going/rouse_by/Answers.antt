use Rattle.fk_calls.specs.declared.calls.going.What.TheVariants as whats
use Rattle.fk_turns.proofs.InSteps.Locked.{kept_locked, kept_unlocked}
use Rattle.fk_turns.proofs.steps.going.rouse_by.Goals as goal

pub rouse_at-requires : goal.rouse_at-requires
rouse_at-requires c = record { sound = c.requires.comes.kept.sound }

pub rouse_at-requires-in-Sleeps : goal.rouse_at-requires-in-Sleeps
rouse_at-requires-in-Sleeps c = record { sound = c.requires.comes.kept.sound }

pub returns-in-Locks : goal.returns-in-Locks
returns-in-Locks c =
    let was = c.args.turns.now in
    record { kept = kept_locked c.args.store.now c.args.mover _ was.waits was.marks (rw c.in-Locks.is at c.requires.comes) c.requires.user }

pub returns-in-Unlocks : goal.returns-in-Unlocks
returns-in-Unlocks c =
    let was = c.args.turns.now in
    let roused = c.rouse_at.new.self in
    record {
      kept = kept_unlocked c.args.store.now c.args.mover (whats.Unlocks c.in-Unlocks.mutex) was.waits was.marks roused.waits roused.marks
          (rw c.in-Unlocks.is at c.requires.comes) c.requires.user c.rouse_at.ensures.roused c.rouse_at.ensures.met c.rouse_at.ensures.freed
          c.rouse_at.ensures.sound;
    }

pub returns-in-Sleeps : goal.returns-in-Sleeps
returns-in-Sleeps c =
    let was = c.args.turns.now in
    let roused = c.rouse_at-in-Sleeps.new.self in
    record {
      kept = kept_unlocked c.args.store.now c.args.mover _ was.waits was.marks roused.waits roused.marks
          (rw c.in-Sleeps.is at c.requires.comes) c.requires.user c.rouse_at-in-Sleeps.ensures.roused c.rouse_at-in-Sleeps.ensures.met
          c.rouse_at-in-Sleeps.ensures.freed c.rouse_at-in-Sleeps.ensures.sound;
    }
