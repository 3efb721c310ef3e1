-- A job in a host: how far it has come, by its own calls and by others' moves between them.
use Rattle.std.specs.Prelude.{◌≡◌, ℕ}
use Rattle.fk_jobs.specs.declared.ended.Finish.{Finish}
use Rattle.fk_jobs.specs.Ended.{finish_of}
use Rattle.fk_model.specs.Places.{Path}
use Rattle.fk_model.specs.World.{World}
use Rattle.laws_house.specs.Houses.{State, machine}
use Rattle.laws_jobs.specs.Jobs.{MeetsContract, MayBegin}
use Rattle.laws_jobs.specs.Machines.{AtWork}
use Rattle.laws_jobs.specs.Machines.Head.{Stops}

-- a job that began in a world and a state has made no call yet, or it is at work
pub data IsUnderWay (nester : Path) (w : World) (s : State) : World → State → Type 0 where
  Begins : IsUnderWay nester w s w s
  Works : (v : World) (t : State) → AtWork machine nester w s v t → IsUnderWay nester w s v t

-- from one world and state to another whatever job of a nester with this birth number was under way is so: one that may begin, and meets its contract
abbrev pub GoesOn : ℕ → World → State → World → State → Type 0
GoesOn birth v t u r = (nester : Path) (w : World) (s : State) → MayBegin w nester birth → MeetsContract machine birth s → IsUnderWay nester w s v t
    → IsUnderWay nester w s u r

-- a job of a nester comes to its end, in this world: to a state in which its machine stops
pub record ComesTo (birth : ℕ) (v : World) (t : State) (u : World) (finish : Finish) : Type 0 where
  pub state : State
  pub goes : GoesOn birth v t u state
  pub stops : machine.head state ≡ Stops (finish_of finish)
