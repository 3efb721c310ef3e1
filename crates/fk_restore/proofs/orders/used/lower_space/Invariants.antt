use Rattle.std.proofs.Common.{◌≤◌, drop}
use Rattle.fk_image.specs.declared.image.image.ObjectRec.{ObjectRec}
use Rattle.fk_restore.specs.Positions.Code.{leads_out}
use Rattle.fk_restore.proofs.InOrders.Below.{NoneBelow}
use Rattle.fk_restore.proofs.orders.used.lower_space.Given as goal

abbrev pub invariant-loop-object : goal.invariant-loop-object
invariant-loop-object l =
    (l.from ≤ l.lowest) × (l.lowest ≤ l.most) × NoneBelow (λ i (o : ObjectRec). leads_out i o.body) l.from l.lowest (drop l.object-index l.objects) l.objects
