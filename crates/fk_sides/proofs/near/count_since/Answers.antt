use Rattle.fk_sides.proofs.Nearness.{sent_long}
use Rattle.fk_sides.proofs.near.count_since.Goals as goal

pub returns : goal.returns
returns c = sent_long c.args.spelled.now c.args.since.now c.total.result c.count_last.result c.total.ensures.total c.count_last.ensures.count
