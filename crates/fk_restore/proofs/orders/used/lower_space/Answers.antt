use Rattle.fk_image.specs.declared.image.image.ObjectRec.{ObjectRec}
use Rattle.fk_restore.specs.Positions.Code.{leads_out}
use Rattle.fk_restore.proofs.InOrders.Below.{none_left}
use Rattle.fk_restore.proofs.orders.used.lower_space.Goals as goal

pub returns-clause-none : goal.returns-clause-none
returns-clause-none c =
    none_left (λ i (o : ObjectRec). leads_out i o.body) c.args.from c.loop-object.lowest c.loop-object.object-index c.args.objects.now c.loop-object-test.false
    c.loop-object.invariant.2
