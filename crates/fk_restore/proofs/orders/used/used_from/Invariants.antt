use Rattle.std.proofs.Common.{◌≤◌, drop}
use Rattle.std.specs.List.{list_any}
use Rattle.fk_image.specs.declared.image.image.ObjectRec.{ObjectRec}
use Rattle.fk_image.specs.declared.image.image.SpaceRec.{SpaceRec}
use Rattle.fk_restore.specs.Positions.Code.{leads_out}
use Rattle.fk_restore.proofs.InOrders.Below.{NoneBelow}
use Rattle.fk_restore.proofs.orders.used.used_from.Given as goal

abbrev pub invariant-loop-space : goal.invariant-loop-space
invariant-loop-space l =
    (l.from ≤ l.lowest)
    × NoneBelow (λ i (s : SpaceRec). list_any (λ (o : ObjectRec). leads_out i o.body) s.objects) l.from l.lowest (drop l.space-index l.spaces) l.spaces
