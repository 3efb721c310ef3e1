use Rattle.std.proofs.Common.{sym, ap, ◌∙◌}
use Rattle.fk_model.specs.Cut.{is_out}
use Rattle.fk_checkpoint.specs.Assembly.Assembling.{pointer_in}
use Rattle.fk_checkpoint.proofs.InAssembly.Loops.{pointer_get}
use Rattle.fk_checkpoint.proofs.assembly.links.is_out_at.Goals as goal

pub returns-in-Some : goal.returns-in-Some
returns-in-Some c = c.is_out.ensures ∙ ap is_out (sym (pointer_get c.args.leads.now c.args.at ∙ ap pointer_in (sym c.in-Some.ensures)))

pub returns-in-None : goal.returns-in-None
returns-in-None c = ap is_out (sym (pointer_get c.args.leads.now c.args.at ∙ ap pointer_in (sym c.in-None.ensures)))
