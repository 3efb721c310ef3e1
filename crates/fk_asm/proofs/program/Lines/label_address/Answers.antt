use Rattle.std.proofs.Common.{◌∙◌}
use Rattle.fk_asm.proofs.program.Lines.label_address.Goals as goal

pub returns : goal.returns
returns c = rw (← c.self.view_is) (c.address_at.ensures ∙ c.self.invariant.0 c.args.name.now)
