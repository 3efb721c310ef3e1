use Rattle.std.proofs.Common.{◌≡◌}
use Rattle.fk_workers.proofs.workers.worker.work.Given as goal

abbrev pub invariant-loop : goal.invariant-loop
invariant-loop g l =
    (goal.iterator-loop g).can_next l.iterator' × (goal.iterator-loop g).is_finite l.iterator'
    × (l.pass.lock ≡ l.initial.pass.lock) × (l.pass.boot ≡ l.initial.pass.boot) × (l.pass.parts ≡ l.initial.pass.parts)
