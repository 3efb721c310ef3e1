use Rattle.fk_core.proofs.cores.speaking.hear_spoken.Goals as goal

pub hear_page-requires-clause-there : goal.hear_page-requires-clause-there
hear_page-requires-clause-there g c = rw c.in-Words.is at c.requires.there

pub returns-in-Words : goal.returns-in-Words
returns-in-Words g c = rw c.in-Words.is c.hear_page.ensures

pub returns-in-Over : goal.returns-in-Over
returns-in-Over g c = rw c.in-Over.is c.hear_over.ensures
