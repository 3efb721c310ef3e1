use Rattle.fk_kernel.proofs.kernel.Kernel.next.Goals as goal

pub next-requires : goal.next-requires
next-requires c = record { valid = c.self.invariant.valid; kept = c.self.invariant.kept }

pub invariant_of-self : goal.invariant_of-self
invariant_of-self c = record { valid = c.self.invariant.valid; kept = c.next.ensures.kept }
