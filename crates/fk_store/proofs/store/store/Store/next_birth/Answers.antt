use Rattle.std.proofs.Common.{ap}
use Rattle.fk_store.specs.Store.World.{world}
use Rattle.fk_store.proofs.store.store.Store.next_birth.Goals as goal

pub returns : goal.returns
unfolding world
returns c = ap (λ m. (world m).next) c.self.view_is
