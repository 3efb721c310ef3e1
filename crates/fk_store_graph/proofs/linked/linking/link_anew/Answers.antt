use Rattle.std.proofs.Common.{◌≡◌, ◌≤◌, ◌<◌, ℕ, Some, refl, sym, ◌∙◌, arith}
use Rattle.fk_store_graph.proofs.InLinked.LinkedLaws.{so_far, none_yet, not_yet, one_more, all_fields, heads_longer, no_lead}
use Rattle.fk_store_graph.proofs.linked.linking.link_anew.Goals as goal

pub loop-field-init : goal.loop-field-init
loop-field-init c = record { rings = λ owner was are. none_yet c.args.objects.now owner c.args.key (Some c.args.body.now) _ are; long = refl }

pub link_moved-requires-clause-field : goal.link_moved-requires-clause-field
link_moved-requires-clause-field c = let few = c.larger-most.ensures.few c.ends.ensures.few c.ends-2.ensures.few in omega (arith, few)

pub link_moved-requires-clause-long : goal.link_moved-requires-clause-long
link_moved-requires-clause-long c = let long = c.loop-field.invariant.long in let low = c.requires.long in omega (arith, long, low)

pub link_moved-requires-clause-heads : goal.link_moved-requires-clause-heads
link_moved-requires-clause-heads c = heads_longer c.args.objects.now _ _ c.loop-field.invariant.long c.requires.heads

pub loop-field-preserved : goal.loop-field-preserved
loop-field-preserved c =
    let most = c.larger-most.ensures.few c.ends.ensures.few c.ends-2.ensures.few in
    let few : c.loop-field.field < 5 = omega (arith, most) in
    record {
      rings = λ owner was are.
          one_more c.args.objects.now owner c.args.key (Some c.args.body.now) c.loop-field.field few _
          (c.link_moved.ensures.rings (so_far c.args.objects.now owner c.args.key (Some c.args.body.now) c.loop-field.field)
          (not_yet c.args.objects.now owner c.args.key (Some c.args.body.now) c.loop-field.field few ∙ was c.loop-field.field few)
          (c.loop-field.invariant.rings owner was are));
      long = c.link_moved.ensures.long ∙ c.loop-field.invariant.long;
    }

-- the fields past the last lead nowhere, and led nowhere
pub returns-clause-rings : goal.returns-clause-rings
returns-clause-rings c = λ owner was are.
    all_fields c.args.objects.now owner c.args.key (Some c.args.body.now) _ c.loop-field.field
    (λ i past few.
    let one = c.larger-most.ensures.one in
    let other = c.larger-most.ensures.other in
    let past_old : c.ends.result ≤ i = omega (arith, past, one) in
    let past_now : c.ends-2.result ≤ i = omega (arith, past, other) in
    no_lead c.args.objects.now c.args.body.now i (c.ends-2.ensures.past i past_now few)
    ∙ sym (was i few ∙ no_lead c.args.objects.now c.args.old.now i (c.ends.ensures.past i past_old few)))
    (c.loop-field.invariant.rings owner was are)

pub returns-clause-long : goal.returns-clause-long
returns-clause-long c = c.loop-field.invariant.long
