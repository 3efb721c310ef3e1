use Rattle.std.proofs.Common.{◌≡◌, ◌≤◌, ◌<◌, ℕ, Some, refl, sym, ◌∙◌, arith}
use Rattle.fk_store_graph.proofs.InLinked.LinkedLaws.{none_yet, one_more, all_fields, heads_longer, no_lead}
use Rattle.fk_store_graph.proofs.linked.linking.link_all.Goals as goal

pub loop-field-init : goal.loop-field-init
loop-field-init c = record { rings = λ owner are. none_yet c.args.objects.now owner c.args.key (Some c.args.body.now) _ are; long = refl }

pub link_field-requires-clause-field : goal.link_field-requires-clause-field
link_field-requires-clause-field c = let most = c.ends-most.ensures.few in omega (arith, most)

pub link_field-requires-clause-long : goal.link_field-requires-clause-long
link_field-requires-clause-long c = let long = c.loop-field.invariant.long in let low = c.requires.long in omega (arith, long, low)

pub link_field-requires-clause-heads : goal.link_field-requires-clause-heads
link_field-requires-clause-heads c = heads_longer c.args.objects.now _ _ c.loop-field.invariant.long c.requires.heads

pub loop-field-preserved : goal.loop-field-preserved
loop-field-preserved c =
    let most = c.ends-most.ensures.few in
    let few : c.loop-field.field < 5 = omega (arith, most) in
    record {
      rings = λ owner are. one_more c.args.objects.now owner c.args.key (Some c.args.body.now) c.loop-field.field few _
          (c.link_field.ensures.rings _ (c.loop-field.invariant.rings owner are));
      long = c.link_field.ensures.long ∙ c.loop-field.invariant.long;
    }

pub returns-clause-rings : goal.returns-clause-rings
returns-clause-rings c = λ owner alone are.
    all_fields c.args.objects.now owner c.args.key (Some c.args.body.now) _ c.loop-field.field
    (λ i past few.
    let past_most : c.ends-most.result ≤ i = omega (arith, past) in
    no_lead c.args.objects.now c.args.body.now i (c.ends-most.ensures.past i past_most few) ∙ sym (alone i few))
    (c.loop-field.invariant.rings owner are)

pub returns-clause-long : goal.returns-clause-long
returns-clause-long c = c.loop-field.invariant.long
