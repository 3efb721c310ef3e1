use Rattle.fk_pager.proofs.Unseen.{pagers_are_hidden}
use Rattle.fk_pager.proofs.pagers_are_hidden.Goals as goal

pub returns : goal.returns
returns c = pagers_are_hidden
