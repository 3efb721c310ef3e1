use Rattle.std.proofs.Common.{◌<◌, ◌+◌, arith}
use Rattle.fk_store.specs.Store.Paths.{path, place}
use Rattle.fk_store.specs.Store.World.{world}
use Rattle.fk_transfer.proofs.SendLaws.{both_low}
use Rattle.fk_transfer.proofs.sending.sent.Goals as goal

pub returns-then-from-message-clause-fits : goal.returns-then-from-message-clause-fits
returns-then-from-message-clause-fits c =
    let p = path c.args.store.now in
    let room : c.args.receiver.into + c.moved-count.result < 18446744073709551616 = omega (arith, c.moved-count.ensures.into, c.requires.into) in
    let left : c.args.message.address + c.moved-count.result < 18446744073709551616 = omega (arith, c.moved-count.ensures.at, c.requires.address) in
    let low = both_low (world c.args.store.now) (place p c.args.caller.who) (place p c.args.receiver.thread) (place p c.args.client) (p c.args.to.0)
    c.args.to.1 _ c.args.message.address c.args.receiver.into c.moved-count.result c.requires.ends room left in
    ((tt, ((c.moved-count.ensures.at, c.moved-count.ensures.into, c.requires.from.1, c.requires.to.0, c.requires.to.1), low.0, low.1)), λ given. tt)

pub returns-else-from-message-clause-fits : goal.returns-else-from-message-clause-fits
returns-else-from-message-clause-fits c =
    let p = path c.args.store.now in
    let room : c.args.receiver.into + c.moved-count.result < 18446744073709551616 = omega (arith, c.moved-count.ensures.into, c.requires.into) in
    let left : c.args.message.address + c.moved-count.result < 18446744073709551616 = omega (arith, c.moved-count.ensures.at, c.requires.address) in
    let low = both_low (world c.args.store.now) (place p c.args.caller.who) (place p c.args.receiver.thread) (place p c.args.client) (p c.args.to.0)
    c.args.to.1 _ c.args.message.address c.args.receiver.into c.moved-count.result c.requires.ends room left in
    (tt, ((c.moved-count.ensures.at, c.moved-count.ensures.into, c.requires.from.1, c.requires.to.0, c.requires.to.1), low.0, low.1))
