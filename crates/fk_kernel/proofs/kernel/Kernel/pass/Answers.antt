use Rattle.fk_kernel.proofs.Endings.{made-passed}
use Rattle.fk_turns.specs.Steps.Waiting.{standing}
use Rattle.fk_kernel.proofs.Kept.{same-false}
use Rattle.fk_kernel.proofs.kernel.Kernel.pass.Goals as goal

pub invariant_of-self : goal.invariant_of-self
invariant_of-self c = record { valid = c.pass-passed.ensures.valid; kept = c.pass-passed.ensures.kept }

pub returns-clause-passed : goal.returns-clause-passed
returns-clause-passed c =
    let inside = c.self.inside in
    let made = made-passed inside.store c.pass-passed.new.store (standing inside.turns.waits) (standing c.pass-passed.new.turns.waits) c.args.port
    c.self.invariant.valid c.names.ensures.few c.pass-passed.ensures.valid c.names-2.ensures.few c.names.ensures.born c.pass-passed.result
    c.pass-passed.ensures.passed in
    rw (← c.self.view_is) made

pub returns-clause-same : goal.returns-clause-same
returns-clause-same c =
    let inside = c.self.inside in
    let same = same-false inside.store c.pass-passed.new.store (standing inside.turns.waits) (standing c.pass-passed.new.turns.waits)
    c.pass-passed.result c.pass-passed.ensures.same c.pass-passed.ensures.still in
    rw (← c.self.view_is) same
