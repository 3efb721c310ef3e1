use Rattle.std.proofs.Common.{Option, sym, ap, subst, ◌∙◌}
use Rattle.fk_model.specs.declared.names.Who.{Who}
use Rattle.fk_waits.specs.Turns.Turns.{all_marks}
use Rattle.fk_waits.proofs.InCauses.Order.{same_self}
use Rattle.fk_turns.specs.Moved.Moved.{is_it, AreFreed, IsTouched}
use Rattle.fk_turns.proofs.InMoved.Touched.{freed_none, place_known, touched_none}
use Rattle.fk_turns.proofs.moved.moving.touch_one.Goals as goal

pub touch-requires : goal.touch-requires
touch-requires c =
    let who = c.in-Some.who in
    record {
      sound = c.requires.sound;
      room = place_known c.args.store.now c.args.turns.now.waits c.args.turns.now.marks who
          (c.requires.known who (ap (λ (o : Option Who). is_it o who) c.in-Some.is ∙ same_self who));
    }

pub returns-in-Some-clause-touched : goal.returns-in-Some-clause-touched
returns-in-Some-clause-touched c =
    subst (λ (o : Option Who). IsTouched c.args.store.now (is_it o) c.args.turns.now.waits c.touch.new.turns.waits) (sym c.in-Some.is) c.touch.ensures.touched

pub returns-in-None-clause-touched : goal.returns-in-None-clause-touched
returns-in-None-clause-touched c =
    subst (λ (o : Option Who). IsTouched c.args.store.now (is_it o) c.args.turns.now.waits c.args.turns.now.waits) (sym c.in-None.is)
    (touched_none c.args.store.now c.args.turns.now.waits)

pub returns-in-Some-clause-freed : goal.returns-in-Some-clause-freed
returns-in-Some-clause-freed c =
    let was = c.args.turns.now in
    let now = c.touch.new.turns in
    subst (λ (o : Option Who). AreFreed (is_it o) (all_marks was.waits was.marks) (all_marks now.waits now.marks) now.waits)
    (sym c.in-Some.is) c.touch.ensures.freed

pub returns-in-None-clause-freed : goal.returns-in-None-clause-freed
returns-in-None-clause-freed c =
    let was = c.args.turns.now in
    subst (λ (o : Option Who). AreFreed (is_it o) (all_marks was.waits was.marks) (all_marks was.waits was.marks) was.waits) (sym c.in-None.is)
    (freed_none (all_marks was.waits was.marks) was.waits)
