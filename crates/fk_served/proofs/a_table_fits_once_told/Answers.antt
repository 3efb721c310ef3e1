use Rattle.fk_served.proofs.Hearing.{a_table_fits_once_told}
use Rattle.fk_served.proofs.a_table_fits_once_told.Goals as goal

pub returns : goal.returns
returns c = a_table_fits_once_told
