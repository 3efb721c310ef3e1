-- Outcomes whose changes are safe, each in the world that the earlier ones leave.
use Rattle.std.proofs.Common.{List, [], ◌∷◌, ◌++◌}
use Rattle.fk_model.specs.World.{World, Change, apply}
use Rattle.fk_model.specs.Outcomes.{Outcome}
use Rattle.fk_model.specs.Outcomes.Outcome.{Refused, Waits, Goes}
use Rattle.laws_moves.proofs.InMachine.safety.Safe.{AreSafe}

-- the changes of an outcome are safe, one after another
abbrev pub SafeIn : World → Outcome → Type 0
SafeIn w (Refused status) = Unit {0}
SafeIn w Waits = Unit {0}
SafeIn w (Goes changes said) = AreSafe w changes

-- (a record, so that the world and the outcome are read off a goal)
pub record SafeOutcome (w : World) (o : Outcome) : Type 0 where
  pub safe : SafeIn w o

-- ---- lists

-- what comes after is safe in every world
pub safe-then : (cs ds : List Change) (w : World) → AreSafe w cs → ((v : World) → AreSafe v ds) → AreSafe w (cs ++ ds)
safe-then [] ds w safe after = after w
safe-then (c ∷ cs) ds w safe after = (safe.0, safe-then cs ds (apply c w) safe.1 after)
