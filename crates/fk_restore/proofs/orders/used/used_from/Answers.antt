use Rattle.std.proofs.Common.{sym, ap, ◌∙◌}
use Rattle.std.specs.List.{list_any}
use Rattle.fk_image.specs.declared.image.image.ObjectRec.{ObjectRec}
use Rattle.fk_image.specs.declared.image.image.SpaceRec.{SpaceRec}
use Rattle.fk_restore.specs.Positions.Code.{leads_out}
use Rattle.fk_restore.proofs.InPositions.Visited.{any_out}
use Rattle.fk_restore.proofs.InOrders.Below.{none_left, one_more}
use Rattle.fk_restore.proofs.orders.used.used_from.Goals as goal

pub loop-space-preserved : goal.loop-space-preserved
loop-space-preserved c = (
  c.lower_space-lowest.ensures.from,
  one_more (λ i (s : SpaceRec). list_any (λ (o : ObjectRec). leads_out i o.body) s.objects) c.args.from c.loop-space.lowest c.lower_space-lowest.result
      c.loop-space.space-index c.args.spaces.now c.space-item.result c.loop-space-test.true c.lower_space-lowest.ensures.most
      (λ i above below. ap (λ (s : SpaceRec). list_any (λ (o : ObjectRec). leads_out i o.body) s.objects) (sym c.space-item.is)
      ∙ ap (list_any (λ (o : ObjectRec). leads_out i o.body)) (sym c.as_slice.ensures) ∙ c.lower_space-lowest.ensures.none i above below)
      c.loop-space.invariant.1,
)

pub returns-clause-none : goal.returns-clause-none
returns-clause-none c i above below =
    any_out c.args.spaces.now i 0 c.args.spaces.now
    ∙ none_left (λ i (s : SpaceRec). list_any (λ (o : ObjectRec). leads_out i o.body) s.objects) c.args.from c.loop-space.lowest c.loop-space.space-index
    c.args.spaces.now c.loop-space-test.false c.loop-space.invariant.1 i above below
