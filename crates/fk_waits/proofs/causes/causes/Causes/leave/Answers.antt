use Rattle.std.proofs.Common.{◌==◌, ℕ, not, sym, ap, ◌∙◌}
use Rattle.fk_waits.proofs.causes.causes.Causes.leave.Goals as goal

pub returns-clause-waited : goal.returns-clause-waited
returns-clause-waited c a b s standing is =
    ap (λ (n : ℕ). not (c.take_out-left.result == n)) c.take_out-left.ensures.ready ∙ sym (c.take_out-left.ensures.waited a b s standing is)
