use Rattle.fk_store.specs.Store.World.{world}
use Rattle.fk_report.proofs.KeptThreads.{listed-threads}
use Rattle.fk_report.proofs.threads.in_order.Goals as goal

pub returns : goal.returns
returns c = listed-threads (world c.args.store.now)
    c.in_ok-kept.kept.entries c.listed.result c.in_ok-kept.ensures.kept c.in_ok-kept.ensures.whole c.listed.ensures.values c.listed.ensures.ordered
