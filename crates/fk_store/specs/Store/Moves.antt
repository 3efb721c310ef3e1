-- Moves: whom they pick and what they tell, by paths.
use Rattle.std.specs.Prelude.{ℕ, Option, option_map, take}
use Rattle.fk_model.specs.declared.names.Who.{Who}
use Rattle.fk_model.specs.declared.moves.Said as says_of
use Rattle.fk_model.specs.declared.moves.Said.TheVariants as says
use Rattle.fk_model.specs.Places.{Path}
use Rattle.fk_model.specs.Places.Ptr.{At}
use Rattle.fk_model.specs.Outcomes.{Said}
use Rattle.fk_model.specs.Outcomes.Said.{Nothing, Answered, Taken, Words, Given, Full, Passed, Ended}
use Rattle.fk_store.specs.Store.Paths.{place}

-- whom a move picks
abbrev pub picked_by : (ℕ → Path) → Option Who → Option Path
picked_by path pick = option_map (place path) pick

-- what a move tells
abbrev pub said_by : (ℕ → Path) → says_of.Said → Said
said_by path says.Nothing = Nothing
said_by path (says.Answer answer) = Answered answer.status (take answer.len answer.words)
said_by path (says.Taken port client resumed turn moved) = Taken (At (place path port)) (place path client) resumed turn moved
said_by path (says.Words port words len) = Words (At (place path port)) (take len words)
said_by path (says.Given port len) = Given (At (place path port)) len
said_by path (says.Full port) = Full (At (place path port))
said_by path (says.Over port) = Passed (At (place path port))
said_by path (says.Ended port) = Ended (At (place path port))
