use Rattle.std.proofs.Common.{◌≡◌, ◌+◌, All, length}
use Rattle.fk_workers.specs.Workers.Places.{IsPlace}
use Rattle.fk_workers.proofs.workers.crew.deal.Given as goal

abbrev pub invariant-loop : goal.invariant-loop
invariant-loop g l = All (λ desk. IsPlace l.lock l.fn.pass.boot desk.pass) l.desks.items × (l.pass.lock ≡ l.lock.id) × (l.pass.boot ≡ l.fn.pass.boot)
    × (l.pass.parts + length l.desks.items ≡ l.fn.workers) × (length l.desks.items + 1 ≡ l.counter)
