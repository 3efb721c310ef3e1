-- Runs: lists of moves, each with what it asks for.
use Rattle.std.specs.Prelude.{List, [], ◌∷◌, Option}
use Rattle.fk_model.specs.declared.moves.Ask.{Ask}
use Rattle.fk_model.specs.Places.{Path}
use Rattle.fk_model.specs.World.{World}
use Rattle.fk_model.specs.Moves.{IsReady, step}

-- a thread that moves, or the port of a native server that acts; whom it picks; and what it asks for
pub record Event : Type 0 where
  pub mover : Path
  pub pick : Option Path
  pub ask : Ask

-- the world after one event
abbrev pub after : World → Event → World
after w e = (step w e.mover e.pick e.ask).world

-- the world after a list of events
unfoldable pub run : World → List Event → World
run w [] = w
run w (e ∷ es) = run (after w e) es

-- each event is ready at its place
abbrev pub IsLegal : World → List Event → Type 0
IsLegal w [] = Unit {0}
IsLegal w (e ∷ es) = IsReady w e.mover e.pick e.ask × IsLegal (after w e) es
