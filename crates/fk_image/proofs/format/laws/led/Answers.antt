use Rattle.fk_image.proofs.InFormat.Leads.{none_wrong, leads_right}
use Rattle.fk_image.proofs.format.laws.led.Goals as goal

pub returns : goal.returns
returns c = λ spaces. (none_wrong spaces, leads_right spaces)
