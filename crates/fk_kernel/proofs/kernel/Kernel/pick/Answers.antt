use Rattle.fk_kernel.proofs.Endings.{ended-some, made-picked}
use Rattle.fk_turns.specs.Steps.Waiting.{standing}
use Rattle.fk_kernel.proofs.Kept.{same-none}
use Rattle.fk_kernel.proofs.kernel.Kernel.pick.Goals as goal

pub invariant_of-self : goal.invariant_of-self
invariant_of-self c = record { valid = c.pick-other.ensures.valid; kept = c.pick-other.ensures.kept }

pub returns-clause-made : goal.returns-clause-made
returns-clause-made c =
    let made = made-picked c.self.inside.store c.pick-other.new.store c.args.who c.names.ensures.born c.pick-other.result
    c.pick-other.ensures.made in
    rw (← c.self.view_is) made

pub returns-clause-ended : goal.returns-clause-ended
returns-clause-ended c =
    let m = c.self.inside.store in
    let n = c.pick-other.new.store in
    let ended = ended-some m n c.self.invariant.valid c.names.ensures.few c.pick-other.ensures.valid c.names-2.ensures.few c.names.ensures.born
    c.pick-other.result c.pick-other.ensures.ended in
    rw (← c.self.view_is) ended

pub returns-clause-same : goal.returns-clause-same
returns-clause-same c =
    let inside = c.self.inside in
    let same = same-none inside.store c.pick-other.new.store (standing inside.turns.waits) (standing c.pick-other.new.turns.waits)
    c.pick-other.result c.pick-other.ensures.same c.pick-other.ensures.still in
    rw (← c.self.view_is) same
