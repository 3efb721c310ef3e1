use Rattle.fk_kernel.proofs.Endings.{made-given}
use Rattle.fk_turns.specs.Steps.Waiting.{standing}
use Rattle.fk_kernel.proofs.Kept.{same-none}
use Rattle.fk_kernel.proofs.kernel.Kernel.give.Goals as goal

pub invariant_of-self : goal.invariant_of-self
invariant_of-self c = record { valid = c.give-gave.ensures.valid; kept = c.give-gave.ensures.kept }

pub returns-clause-gave : goal.returns-clause-gave
returns-clause-gave c =
    let inside = c.self.inside in
    let made = made-given inside.store c.give-gave.new.store (standing inside.turns.waits) (standing c.give-gave.new.turns.waits) c.args.port
    c.self.invariant.valid c.names.ensures.few c.give-gave.ensures.valid c.names-2.ensures.few c.names.ensures.born c.args.words.now c.give-gave.result
    c.give-gave.ensures.gave in
    rw (← c.self.view_is) made

pub returns-clause-same : goal.returns-clause-same
returns-clause-same c =
    let inside = c.self.inside in
    let same = same-none inside.store c.give-gave.new.store (standing inside.turns.waits) (standing c.give-gave.new.turns.waits)
    c.give-gave.result c.give-gave.ensures.same c.give-gave.ensures.still in
    rw (← c.self.view_is) same
