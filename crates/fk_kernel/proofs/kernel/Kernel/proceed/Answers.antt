use Rattle.fk_kernel.proofs.Endings.{ended-proceeded, made-proceeded}
use Rattle.fk_turns.specs.Steps.Classes.{is_made}
use Rattle.fk_turns.specs.Steps.Waiting.{standing}
use Rattle.fk_kernel.proofs.Kept.{same-false}
use Rattle.fk_kernel.proofs.kernel.Kernel.proceed.Goals as goal

pub invariant_of-self : goal.invariant_of-self
invariant_of-self c = record { valid = c.proceed-gone.ensures.valid; kept = c.proceed-gone.ensures.kept }

pub returns-clause-made : goal.returns-clause-made
returns-clause-made c =
    let made = made-proceeded c.self.inside.store c.proceed-gone.new.store c.args.who c.names.ensures.born (is_made c.proceed-gone.result) c.proceed-gone.ensures.made in
    rw (← c.self.view_is) made

pub returns-clause-ended : goal.returns-clause-ended
returns-clause-ended c =
    let m = c.self.inside.store in
    let n = c.proceed-gone.new.store in
    let ended = ended-proceeded m n c.self.invariant.valid c.names.ensures.few c.proceed-gone.ensures.valid c.names-2.ensures.few c.names.ensures.born
    (is_made c.proceed-gone.result) c.proceed-gone.ensures.ended in
    rw (← c.self.view_is) ended

pub returns-clause-same : goal.returns-clause-same
returns-clause-same c =
    let inside = c.self.inside in
    let same = same-false inside.store c.proceed-gone.new.store (standing inside.turns.waits) (standing c.proceed-gone.new.turns.waits) (is_made c.proceed-gone.result)
    c.proceed-gone.ensures.same c.proceed-gone.ensures.still in
    rw (← c.self.view_is) same

pub returns-clause-waits : goal.returns-clause-waits
returns-clause-waits c = rw (← c.self.view_is) c.proceed-gone.ensures.waits
