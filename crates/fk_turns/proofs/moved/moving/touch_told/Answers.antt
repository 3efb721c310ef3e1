use Rattle.std.proofs.Common.{refl, sym, ap, subst}
use Rattle.fk_waits.specs.Turns.Turns.{all_marks}
use Rattle.fk_waits.proofs.InCauses.Order.{same_self}
use Rattle.fk_plans.specs.declared.wakes.touching.Touched.{Touched}
use Rattle.fk_turns.specs.Moved.Moved.{is_named, is_wide, AreFreed, HasRoomFor, IsTouched}
use Rattle.fk_turns.proofs.InMoved.Touched.{freed_none, place_known, touched_none}
use Rattle.fk_turns.proofs.moved.moving.touch_told.Goals as goal

pub touch_few-requires : goal.touch_few-requires
touch_few-requires c =
    let room = subst (λ (t : Touched). HasRoomFor c.args.store.now t c.args.turns.now.waits c.args.turns.now.marks) c.in-Few.is c.requires.room in
    record { sound = c.requires.sound; known = λ x named user. room.known x named refl user }

pub touch-requires : goal.touch-requires
touch-requires c =
    let room = subst (λ (t : Touched). HasRoomFor c.args.store.now t c.args.turns.now.waits c.args.turns.now.marks) c.in-Makes.is c.requires.room in
    record { sound = c.requires.sound; room = room.put }

pub touch-requires-in-Dies : goal.touch-requires-in-Dies
touch-requires-in-Dies c =
    let room = subst (λ (t : Touched). HasRoomFor c.args.store.now t c.args.turns.now.waits c.args.turns.now.marks) c.in-Dies.is c.requires.room in
    record {
      sound = c.requires.sound;
      room = place_known c.args.store.now c.args.turns.now.waits c.args.turns.now.marks c.in-Dies.object
          (λ user. room.known c.in-Dies.object (same_self c.in-Dies.object) refl user);
    }

pub shift-requires : goal.shift-requires
shift-requires c =
    let room = subst (λ (t : Touched). HasRoomFor c.args.store.now t c.args.turns.now.waits c.args.turns.now.marks) c.in-Moves.is c.requires.room in
    record { sound = c.requires.sound; none = c.requires.none (ap is_wide c.in-Moves.is); stands = room.put.0; left = room.put.1 }

pub returns-in-Few-clause-touched : goal.returns-in-Few-clause-touched
returns-in-Few-clause-touched c =
    subst (λ (t : Touched). IsTouched c.args.store.now (is_named t) c.args.turns.now.waits c.touch_few.new.turns.waits) (sym c.in-Few.is)
    c.touch_few.ensures.touched

pub returns-in-Makes-clause-touched : goal.returns-in-Makes-clause-touched
returns-in-Makes-clause-touched c =
    subst (λ (t : Touched). IsTouched c.args.store.now (is_named t) c.args.turns.now.waits c.touch.new.turns.waits) (sym c.in-Makes.is)
    c.touch.ensures.touched

pub returns-in-Dies-clause-touched : goal.returns-in-Dies-clause-touched
returns-in-Dies-clause-touched c =
    subst (λ (t : Touched). IsTouched c.args.store.now (is_named t) c.args.turns.now.waits c.touch-in-Dies.new.turns.waits) (sym c.in-Dies.is)
    c.touch-in-Dies.ensures.touched

pub returns-in-Any-clause-touched : goal.returns-in-Any-clause-touched
returns-in-Any-clause-touched c =
    subst (λ (t : Touched). IsTouched c.args.store.now (is_named t) c.args.turns.now.waits c.args.turns.now.waits) (sym c.in-Any.is)
    (touched_none c.args.store.now c.args.turns.now.waits)

pub returns-in-Moves-clause-touched : goal.returns-in-Moves-clause-touched
returns-in-Moves-clause-touched c =
    subst (λ (t : Touched). IsTouched c.args.store.now (is_named t) c.args.turns.now.waits c.shift.new.turns.waits) (sym c.in-Moves.is)
    c.shift.ensures.touched

pub returns-in-Few-clause-freed : goal.returns-in-Few-clause-freed
returns-in-Few-clause-freed c =
    let was = c.args.turns.now in
    let now = c.touch_few.new.turns in
    subst (λ (t : Touched). AreFreed (is_named t) (all_marks was.waits was.marks) (all_marks now.waits now.marks) now.waits)
    (sym c.in-Few.is) c.touch_few.ensures.freed

pub returns-in-Makes-clause-freed : goal.returns-in-Makes-clause-freed
returns-in-Makes-clause-freed c =
    let was = c.args.turns.now in
    let now = c.touch.new.turns in
    subst (λ (t : Touched). AreFreed (is_named t) (all_marks was.waits was.marks) (all_marks now.waits now.marks) now.waits)
    (sym c.in-Makes.is) c.touch.ensures.freed

pub returns-in-Dies-clause-freed : goal.returns-in-Dies-clause-freed
returns-in-Dies-clause-freed c =
    let was = c.args.turns.now in
    let now = c.touch-in-Dies.new.turns in
    subst (λ (t : Touched). AreFreed (is_named t) (all_marks was.waits was.marks) (all_marks now.waits now.marks) now.waits)
    (sym c.in-Dies.is) c.touch-in-Dies.ensures.freed

pub returns-in-Moves-clause-freed : goal.returns-in-Moves-clause-freed
returns-in-Moves-clause-freed c =
    let was = c.args.turns.now in
    let now = c.shift.new.turns in
    subst (λ (t : Touched). AreFreed (is_named t) (all_marks was.waits was.marks) (all_marks now.waits now.marks) now.waits)
    (sym c.in-Moves.is) c.shift.ensures.freed

pub returns-in-Any-clause-freed : goal.returns-in-Any-clause-freed
returns-in-Any-clause-freed c =
    let was = c.args.turns.now in
    subst (λ (t : Touched). AreFreed (is_named t) (all_marks was.waits was.marks) (all_marks was.waits was.marks) was.waits) (sym c.in-Any.is)
    (freed_none (all_marks was.waits was.marks) was.waits)
