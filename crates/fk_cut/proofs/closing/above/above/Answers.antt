use Rattle.std.proofs.Common.{rules}
use Rattle.fk_cut.proofs.InClosing.Ways.{root-path, home-live}
use Rattle.fk_cut.proofs.closing.above.above.Goals as goal

pub returns-clause-root : goal.returns-clause-root
returns-clause-root c = root-path c.args.store.now c.args.who.space c.home.result c.home.ensures.some (c.at.ensures.space (search rules))

pub returns-clause-live : goal.returns-clause-live
returns-clause-live c = home-live c.args.store.now c.args.who.space c.home.result (c.at.ensures.space (search rules)) c.home.ensures.place
