use Rattle.std.proofs.Common.{sym}
use Rattle.fk_image.proofs.InFormat.Leads.{none_wrong}
use Rattle.fk_image.proofs.InValid.Led.{not_led}
use Rattle.fk_image.proofs.valid.spaces.leads.Goals as goal

pub returns-in-Ok : goal.returns-in-Ok
returns-in-Ok c = sym (none_wrong c.args.spaces.now c.in-Ok.ensures)

pub returns-in-Err-Wrong : goal.returns-in-Err-Wrong
returns-in-Err-Wrong c = not_led c.args.spaces.now _ (rw c.in-Err-Wrong.field-0-is at c.in-Err-Wrong.ensures)
