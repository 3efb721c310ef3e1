use Rattle.std.proofs.Common.{◌<◌, ◌+◌, refl, arith}
use Rattle.fk_model.specs.declared.thread.Turn.TheVariants as turns
use Rattle.fk_store.specs.Store.Paths.{path, place}
use Rattle.fk_store.specs.Store.World.{world}
use Rattle.fk_transfer.proofs.SendLaws.{own_low}
use Rattle.fk_transfer.proofs.sending.told.Goals as goal

pub returns-clause-fits : goal.returns-clause-fits
returns-clause-fits c =
    let left : c.args.message.address + c.moved-count.result < 18446744073709551616 = omega (arith, c.moved-count.ensures.at, c.requires.address) in
    let p = path c.args.store.now in
    let low = own_low (world c.args.store.now) (place p c.args.caller.who) (place p c.args.caller.who)
    turns.Client c.args.message.address c.args.message.count c.moved-count.result c.requires.calling left in
    (c.requires.user, (c.requires.port, (c.moved-count.ensures.at, c.requires.from.1)), (tt, (tt, low, refl)))
