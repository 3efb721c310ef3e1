use Rattle.std.proofs.Common.{arith}
use Rattle.fk_store.specs.Store.World.{world}
use Rattle.fk_store.proofs.InStore.changing.Born.{paths-born}
use Rattle.fk_store.proofs.store.store.Store.names.Goals as goal

pub returns-clause-born : goal.returns-clause-born
returns-clause-born c = rw (← c.self.view_is) (paths-born _ c.self.invariant (omega arith))

pub returns-clause-few : goal.returns-clause-few
unfolding world
returns-clause-few c = rw (← c.self.view_is) (omega arith)
