use Rattle.std.proofs.Common.{sym, ap, subst}
use Rattle.fk_waits.specs.Waits.Lists.{Lists}
use Rattle.fk_turns.specs.Steps.Waiting.{standing, AreWaiting}
use Rattle.fk_kernel.proofs.kernel.Kernel.waits.Goals as goal

pub waiting-requires : goal.waiting-requires
waiting-requires c = record { valid = c.self.invariant.valid; kept = c.self.invariant.kept }

pub returns-clause-standing : goal.returns-clause-standing
returns-clause-standing c = rw (← c.self.view_is) (ap standing c.waits.ensures)

pub returns-clause-waiting : goal.returns-clause-waiting
returns-clause-waiting c =
    rw (← c.self.view_is) (subst (λ (l : Lists). AreWaiting c.self.inside.store l) (sym c.waits.ensures) c.waiting.ensures)
