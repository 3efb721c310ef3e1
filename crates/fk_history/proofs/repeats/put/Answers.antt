use Rattle.std.proofs.Common.{◌≤◌, ◌∙◌, ap, arith, length, length-append}
use Rattle.fk_history.proofs.Repeating.{some_more}
use Rattle.fk_history.proofs.repeats.put.Goals as goal

pub loop-left-preserved : goal.loop-left-preserved
loop-left-preserved c =
    let so_far = c.loop-left.invariant in
    let one_more = c.push_reserved.ensures in
    let some = c.min-some.ensures in
    let none = c.loop-left-test.true in
    let from = c.from.ensures in
    let few : c.min-some.result ≤ c.loop-left.left = omega (arith, some) in
    let long = ap length one_more.items ∙ length-append c.loop-left.repeats.items _ in (
      some_more c.loop-left.repeats.items _ c.min-some.result c.loop-left.left c.args.m one_more.items few ∙ so_far.0,
      omega (arith, so_far.1, long, some, from, none),
      one_more.capacity ∙ so_far.2,
    )
