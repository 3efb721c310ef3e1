use Rattle.std.proofs.Common.{refl}
use Rattle.fk_cut.proofs.InClosing.Openings.{open_when}
use Rattle.fk_cut.proofs.closing.closing.open_field.Goals as goal

pub returns-in-Some-far_field : goal.returns-in-Some-far_field
returns-in-Some-far_field c = λ q is.
    open_when c.args.store.now c.args.root c.args.who q c.in-Some.body.now c.in-Some.ensures.body is _ _ (c.in-Some-far_field.ensures q is) refl

pub returns-in-None-far_field : goal.returns-in-None-far_field
returns-in-None-far_field c = λ q is.
    open_when c.args.store.now c.args.root c.args.who q c.in-Some.body.now c.in-Some.ensures.body is _ _ (c.in-None-far_field.ensures q is) c.led_field.ensures
