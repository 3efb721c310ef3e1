use Rattle.std.proofs.Common.{◌≡◌, ◌+◌, All, length}
use Rattle.fk_workers.specs.Workers.Places.{IsPlace}
use Rattle.fk_workers.proofs.workers.crew.gather.Given as goal

abbrev pub invariant-loop-desk : goal.invariant-loop-desk
invariant-loop-desk g l = All (λ desk. IsPlace l.lock l._boot.value desk.pass) l.desks.items × (l.pass.lock ≡ l.lock.id) × (l.pass.boot ≡ l._boot.value)
    × (l.pass.parts + length l.desks.items ≡ length l.fn.desks.items)

abbrev pub decreases-loop-desk : goal.decreases-loop-desk
decreases-loop-desk g l = length l.desks.items
