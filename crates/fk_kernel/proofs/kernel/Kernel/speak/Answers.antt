use Rattle.fk_kernel.proofs.Endings.{ended-some, heard-spoken, made-spoken}
use Rattle.fk_turns.specs.Steps.Waiting.{standing}
use Rattle.fk_kernel.proofs.Kept.{same-none}
use Rattle.fk_kernel.proofs.kernel.Kernel.speak.Goals as goal

pub invariant_of-self : goal.invariant_of-self
invariant_of-self c = record { valid = c.speak-spoken.ensures.valid; kept = c.speak-spoken.ensures.kept }

pub returns-clause-made : goal.returns-clause-made
returns-clause-made c =
    let made = made-spoken c.self.inside.store c.speak-spoken.new.store c.args.who c.names.ensures.born c.speak-spoken.result c.speak-spoken.ensures.made in
    rw (← c.self.view_is) made

pub returns-clause-told : goal.returns-clause-told
returns-clause-told c =
    let told = heard-spoken c.self.inside.store c.speak-spoken.new.store c.args.who c.names.ensures.born c.speak-spoken.result c.speak-spoken.ensures.made
    c.speak-spoken.ensures.heard in
    rw (← c.self.view_is) told

pub returns-clause-ended : goal.returns-clause-ended
returns-clause-ended c =
    let m = c.self.inside.store in
    let n = c.speak-spoken.new.store in
    let ended = ended-some m n c.self.invariant.valid c.names.ensures.few c.speak-spoken.ensures.valid c.names-2.ensures.few c.names.ensures.born
    c.speak-spoken.result c.speak-spoken.ensures.ended in
    rw (← c.self.view_is) ended

pub returns-clause-same : goal.returns-clause-same
returns-clause-same c =
    let inside = c.self.inside in
    let same = same-none inside.store c.speak-spoken.new.store (standing inside.turns.waits) (standing c.speak-spoken.new.turns.waits) c.speak-spoken.result
    c.speak-spoken.ensures.same c.speak-spoken.ensures.still in
    rw (← c.self.view_is) same
