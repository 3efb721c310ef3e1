use Rattle.fk_store.specs.Store.Paths.{path}
use Rattle.fk_changes.proofs.InReaders.Spaces.{same_space}
use Rattle.fk_changes.proofs.readers.within.is_in.Goals as goal

pub returns-then-is_some-clause-same : goal.returns-then-is_some-clause-same
returns-then-is_some-clause-same c there =
    same_space (path c.args.store.now) c.args.who c.args.space (c.at.ensures.apart (cc) (record { space = c.args.space; slot = c.args.who.slot })).1
