use Rattle.std.proofs.Common.{◌≡◌, ◌≤◌, ◌<◌, ℕ, refl, ◌∙◌, arith}
use Rattle.fk_store_graph.proofs.InLinked.LinkedLaws.{none_unled, one_unled, all_unled}
use Rattle.fk_store_graph.proofs.linked.linking.unlink_all.Goals as goal

pub loop-field-init : goal.loop-field-init
loop-field-init c = record { rings = λ owner are. none_unled owner c.args.key _ are; long = refl }

pub unlink_field-requires-clause-field : goal.unlink_field-requires-clause-field
unlink_field-requires-clause-field c = let most = c.requires.few in omega (arith, most)

pub unlink_field-requires-clause-long : goal.unlink_field-requires-clause-long
unlink_field-requires-clause-long c = let long = c.loop-field.invariant.long in let low = c.requires.long in omega (arith, long, low)

pub loop-field-preserved : goal.loop-field-preserved
loop-field-preserved c =
    let most = c.requires.few in
    let few : c.loop-field.field < 5 = omega (arith, most) in
    record {
      rings = λ owner are. one_unled owner c.args.key c.loop-field.field few _ (c.unlink_field.ensures.rings _ (c.loop-field.invariant.rings owner are));
      long = c.unlink_field.ensures.long ∙ c.loop-field.invariant.long;
    }

pub returns-clause-rings : goal.returns-clause-rings
returns-clause-rings c = λ owner alone are.
    all_unled owner c.args.key _ c.loop-field.field (λ i past few. let most : c.args.most ≤ i = omega (arith, past) in alone i most few)
    (c.loop-field.invariant.rings owner are)

pub returns-clause-long : goal.returns-clause-long
returns-clause-long c = c.loop-field.invariant.long
