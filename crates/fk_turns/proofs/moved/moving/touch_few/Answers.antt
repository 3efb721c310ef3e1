use Rattle.std.proofs.Common.{◌||◌, refl}
use Rattle.std.proofs.lemmas.Bool.{or_left, or_right}
use Rattle.fk_model.specs.declared.names.Who.{Who}
use Rattle.fk_waits.specs.Turns.Turns.{all_marks}
use Rattle.fk_waits.proofs.InTurns.Roused.{less_then}
use Rattle.fk_turns.specs.Moved.Moved.{is_it}
use Rattle.fk_turns.proofs.InMoved.Touched.{freed_then, still_stands, touched_then}
use Rattle.fk_turns.proofs.moved.moving.touch_few.Goals as goal

pub touch_one-requires : goal.touch_one-requires
touch_one-requires c = record {
  sound = c.requires.sound;
  known = λ x is user. c.requires.known x (or_left (is_it c.args.first x) (is_it c.args.second x || is_it c.args.third x) is) user;
}

pub touch_one-requires-2 : goal.touch_one-requires-2
touch_one-requires-2 c = record {
  sound = c.touch_one.ensures.sound;
  known = λ x is user. still_stands c.args.store.now (is_it c.args.first) c.args.turns.now.waits c.touch_one.new.turns.waits x c.touch_one.ensures.touched user
      (c.requires.known x (or_right (is_it c.args.first x) (is_it c.args.second x || is_it c.args.third x)
      (or_left (is_it c.args.second x) (is_it c.args.third x) is)) user);
}

pub touch_one-requires-3 : goal.touch_one-requires-3
touch_one-requires-3 c = record {
  sound = c.touch_one-2.ensures.sound;
  known = λ x is user. still_stands c.args.store.now (is_it c.args.second) c.touch_one.new.turns.waits c.touch_one-2.new.turns.waits x
      c.touch_one-2.ensures.touched user
      (still_stands c.args.store.now (is_it c.args.first) c.args.turns.now.waits c.touch_one.new.turns.waits x c.touch_one.ensures.touched user
      (c.requires.known x (or_right (is_it c.args.first x) (is_it c.args.second x || is_it c.args.third x)
      (or_right (is_it c.args.second x) (is_it c.args.third x) is)) user));
}

pub returns-clause-touched : goal.returns-clause-touched
returns-clause-touched c =
    let n = c.args.store.now in
    let a = is_it c.args.first in
    let b = is_it c.args.second in
    let d = is_it c.args.third in
    touched_then n a (λ (x : Who). b x || d x) (λ (x : Who). a x || (b x || d x)) c.args.turns.now.waits c.touch_one.new.turns.waits
    c.touch_one-3.new.turns.waits (λ x. refl) c.touch_one.ensures.touched
    (touched_then n b d (λ (x : Who). b x || d x) c.touch_one.new.turns.waits c.touch_one-2.new.turns.waits c.touch_one-3.new.turns.waits (λ x. refl)
    c.touch_one-2.ensures.touched c.touch_one-3.ensures.touched)

pub returns-clause-freed : goal.returns-clause-freed
returns-clause-freed c =
    let a = is_it c.args.first in
    let b = is_it c.args.second in
    let d = is_it c.args.third in
    let was = c.args.turns.now in
    let first = c.touch_one.new.turns in
    let second = c.touch_one-2.new.turns in
    let third = c.touch_one-3.new.turns in
    freed_then a (λ (x : Who). b x || d x) (λ (x : Who). a x || (b x || d x)) (all_marks was.waits was.marks) (all_marks first.waits first.marks)
    (all_marks third.waits third.marks) first.waits third.waits (λ x. refl) c.touch_one.ensures.freed
    (freed_then b d (λ (x : Who). b x || d x) (all_marks first.waits first.marks) (all_marks second.waits second.marks) (all_marks third.waits third.marks)
    second.waits third.waits (λ x. refl) c.touch_one-2.ensures.freed c.touch_one-3.ensures.freed c.touch_one-3.ensures.touched.less)
    (less_then first.waits second.waits third.waits c.touch_one-2.ensures.touched.less c.touch_one-3.ensures.touched.less)
