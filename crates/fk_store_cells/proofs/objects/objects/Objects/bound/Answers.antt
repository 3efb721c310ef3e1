use Rattle.std.proofs.Common.{arith}
use Rattle.fk_store_cells.proofs.InObjects.ChangeLaws.{under_low, under_small}
use Rattle.fk_store_cells.proofs.objects.objects.Objects.bound.Goals as goal

pub returns-then-most-lt-KEYS : goal.returns-then-most-lt-KEYS
returns-then-most-lt-KEYS c = λ key there.
    let low = under_low _ _ c.self.inside.entries key (rw (← c.self.view_is) at there) in
    let few = c.capacity-most.ensures.slots in
    omega (arith, low, few)

pub returns-else-most-lt-KEYS : goal.returns-else-most-lt-KEYS
returns-else-most-lt-KEYS c = λ key there. under_small _ key c.self.invariant (rw (← c.self.view_is) at there)
