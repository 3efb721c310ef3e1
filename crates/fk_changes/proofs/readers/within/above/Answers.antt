use Rattle.std.proofs.Common.{refl}
use Rattle.fk_changes.proofs.InReaders.Beneath.{stands_in}
use Rattle.fk_changes.proofs.readers.within.above.Goals as goal

pub returns-clause-some : goal.returns-clause-some
returns-clause-some c = stands_in c.args.store.now c.args.at.space (c.in_ok-at.ensures.space refl) c.home.result c.home.ensures.place c.home.ensures.older
