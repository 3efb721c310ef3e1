use Rattle.std.proofs.Common.{refl}
use Rattle.fk_asm.specs.Program.{label_address_from}
use Rattle.fk_asm.proofs.program.Lines.new.Goals as goal

pub invariant_of-result : goal.invariant_of-result
unfolding label_address_from
invariant_of-result c = rw (c.new.ensures.items, c.new-2.ensures.empty) (λ name. refl, refl)
