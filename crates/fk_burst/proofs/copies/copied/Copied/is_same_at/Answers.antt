use Rattle.std.specs.Option.{option_copied}
use Rattle.fk_store.specs.Store.Paths.{path}
use Rattle.fk_store.specs.Store.World.{world}
use Rattle.fk_burst.proofs.InCopies.Places.{same_at}
use Rattle.fk_burst.proofs.copies.copied.Copied.is_same_at.Goals as goal

pub returns-then-self-k : goal.returns-then-self-k
returns-then-self-k c = same_at (world c.args.store.now) c.args.self.now c.args.taken.now (path c.args.store.now c.args.space) c.args.k
    c.is_copied.result (option_copied c.near-page.result) c.requires.first c.if-self-k.true c.near-page.ensures c.is_copied.ensures
