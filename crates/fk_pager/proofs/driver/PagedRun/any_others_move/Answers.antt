use Rattle.fk_pager.proofs.Driving.{both-none, none-of-either}
use Rattle.fk_pager.proofs.driver.PagedRun.any_others_move.Goals as goal

pub returns-clause-none : goal.returns-clause-none
returns-clause-none g c = both-none c.choose.result _ _ _ none-of-either c.choose.ensures.none c.choose.ensures.users
