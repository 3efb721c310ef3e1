-- What a porter has come to.
use Rattle.fk_checkpoint.specs.Checkpoint.Phases as checkpoints
use Rattle.laws_house.specs.Houses.{State}
use Rattle.laws_house.specs.Houses.State.{Checking, Restoring}
use Rattle.fk_jobs.specs.declared.porter.Porter.{Porter}
use Rattle.fk_jobs.specs.declared.porter.Porter.TheVariants as porters

-- the state of the machine
abbrev pub state_of : Porter → State
state_of (porters.Checkpoint c) = Checking c.slot (checkpoints.state_of c)
state_of (porters.Restore r) = Restoring r.slot r.pairs r.image r.state

-- room for one answer
abbrev pub has_room : Porter → Type 0
has_room (porters.Checkpoint c) = checkpoints.HasRoom c
has_room (porters.Restore r) = Unit {0}
