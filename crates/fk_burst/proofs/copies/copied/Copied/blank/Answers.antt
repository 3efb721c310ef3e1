use Rattle.fk_burst.proofs.InCopies.Places.{none-used, none_instructed}
use Rattle.fk_burst.proofs.copies.copied.Copied.blank.Goals as goal

pub returns-clause-unused : goal.returns-clause-unused
returns-clause-unused c = λ page. none-used _ _ _ _ _ page

pub returns-clause-idle : goal.returns-clause-idle
returns-clause-idle c = none_instructed _ _ _
