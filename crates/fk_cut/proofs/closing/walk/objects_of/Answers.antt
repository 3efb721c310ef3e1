use Rattle.std.proofs.Common.{arith}
use Rattle.fk_cut.proofs.InClosing.Walked.{walk_begins, walk_smaller, walk_goes_on, walk_ends}
use Rattle.fk_cut.proofs.closing.walk.objects_of.Goals as goal

pub loop-who-init : goal.loop-who-init
loop-who-init c = walk_begins c.args.store.now c.args.root c.new-objects.result c.push.new.self c.new-stack.result
    c.new-objects.ensures c.in_ok-push.ensures c.new-stack.ensures

pub loop-who-smaller : goal.loop-who-smaller
loop-who-smaller c = walk_smaller c.args.store.now c.args.root c.in-Some.who c.loop-who.stack c.pop.new.self c.await_inner.new.stack (omega arith)
    c.in-Some.ensures c.in_ok-await_inner.ensures

pub loop-who-preserved : goal.loop-who-preserved
loop-who-preserved c = walk_goes_on c.args.store.now c.args.root c.in-Some.who c.loop-who.objects c.push-in-Some.new.self c.loop-who.stack c.pop.new.self
    c.await_inner.new.stack _ (omega arith) c.in-Some.ensures c.in_ok-await_inner.ensures c.in_ok-push-2.ensures.ok c.loop-who.invariant

pub returns : goal.returns
returns c = walk_ends c.args.store.now c.args.root c.loop-who.objects c.loop-who.stack c.in_default.ensures.0 c.loop-who.invariant
