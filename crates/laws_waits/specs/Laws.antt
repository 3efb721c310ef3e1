-- The laws of stuck threads.
use Rattle.std.specs.Prelude.{Option}
use Rattle.fk_model.specs.declared.moves.Ask.{Ask}
use Rattle.fk_model.specs.declared.moves.Ask.TheVariants as asks
use Rattle.fk_model.specs.Places.{Path}
use Rattle.fk_model.specs.World.{World, Change, apply}
use Rattle.fk_model.specs.Outcomes.{listed}
use Rattle.fk_model.specs.Moves.{IsReady, outcome, step}
use Rattle.fk_model.specs.Valid.{IsValid}
use Rattle.fk_model.specs.Searches.{depth}
use Rattle.std.specs.Prelude.{◌≤◌}
use Rattle.laws_waits.specs.Stuck.{Reason, IsStuck, IsUntouched, AreUntouched}

-- no move of a stuck thread is ready, whatever it picks
abbrev pub StuckIsUnready : Type 0
StuckIsUnready = (w : World) (x : Path) (r : Reason) → IsValid w → w.next ≤ depth → IsStuck w x r → (pick : Option Path) → IsReady w x pick asks.Run → ⊥

-- a change that leaves the reason leaves it true. Nothing is asked of the world
abbrev pub StuckStays : Type 0
StuckStays = (w : World) (c : Change) (x : Path) (r : Reason) → IsStuck w x r → IsUntouched w c x r → IsStuck (apply c w) x r

-- and so does a move, whoever makes it
abbrev pub MovesLeaveStuck : Type 0
MovesLeaveStuck = (w : World) (x : Path) (r : Reason) (mover : Path) (pick : Option Path) (ask : Ask) →
    IsStuck w x r → AreUntouched w (listed (outcome w mover pick ask)) x r → IsStuck (step w mover pick ask).world x r
