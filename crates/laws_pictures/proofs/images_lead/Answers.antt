use Rattle.laws_pictures.proofs.Leading.{image_leads}
use Rattle.laws_pictures.proofs.images_lead.Goals as goal

pub returns : goal.returns
returns c = image_leads
