use Rattle.fk_pager.proofs.Begins.{desks_are_first_lem}
use Rattle.fk_pager.proofs.desks_are_first.Goals as goal

pub returns : goal.returns
returns c = desks_are_first_lem
