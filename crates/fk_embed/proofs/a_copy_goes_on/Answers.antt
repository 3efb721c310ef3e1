use Rattle.fk_embed.proofs.Ending.{copy_goes_on}
use Rattle.fk_embed.proofs.a_copy_goes_on.Goals as goal

pub returns : goal.returns
returns c = copy_goes_on
