use Rattle.fk_pager.proofs.Opened.{openings_take_all}
use Rattle.fk_pager.proofs.openings_take_all.Goals as goal

pub returns : goal.returns
returns c = openings_take_all
