use Rattle.fk_turns.proofs.InMoved.After.{kept_after}
use Rattle.fk_turns.proofs.InMoved.Touched.{place_own, room_roused}
use Rattle.fk_turns.proofs.moved.moving.moved.Goals as goal

pub touch_told-requires : goal.touch_told-requires
touch_told-requires c =
    let was = c.args.turns.now in
    record {
      sound = c.rouse.ensures.sound;
      room = room_roused c.args.store.now c.args.touched.now was.waits was.marks c.rouse.new.turns.waits c.rouse.new.turns.marks c.rouse.ensures.roused
          c.requires.room.named;
      none = c.rouse.ensures.roused.none;
    }

pub touch-requires : goal.touch-requires
touch-requires c =
    let was = c.args.turns.now in
    record {
      sound = c.touch_told.ensures.sound;
      room = place_own c.args.store.now c.args.mover c.args.touched.now was.waits was.marks c.rouse.new.turns.waits c.rouse.new.turns.marks
          c.touch_told.new.turns.waits c.touch_told.new.turns.marks c.requires.room c.rouse.ensures.roused c.touch_told.ensures.touched;
    }

pub returns-clause-kept : goal.returns-clause-kept
returns-clause-kept c m kept move =
    let was = c.args.turns.now in
    kept_after m c.args.store.now c.args.mover c.args.touched.now was.waits was.marks c.rouse.new.turns.waits c.rouse.new.turns.marks
    c.touch_told.new.turns.waits c.touch_told.new.turns.marks c.touch.new.turns.waits c.touch.new.turns.marks kept move c.rouse.ensures.roused
    c.touch_told.ensures.touched c.touch.ensures.touched c.touch_told.ensures.freed c.touch.ensures.freed c.touch.ensures.sound
