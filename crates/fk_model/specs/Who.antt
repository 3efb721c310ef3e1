-- Who: the object that a birth number and a slot name, as moves do.
use Rattle.std.specs.Prelude.{ℕ, Bool, false, ◌==◌, [], ◌∷◌, find, Option, Some, None, unwrap_or, option_map}
use Rattle.fk_model.specs.declared.moves.Ask.{Ask}
use Rattle.fk_model.specs.declared.moves.Move.{Move}
use Rattle.fk_model.specs.declared.names.Who.{Who}
use Rattle.fk_model.specs.Places.{Path}
use Rattle.fk_model.specs.World.{World}
use Rattle.fk_model.specs.Searches.{objects}
use Rattle.fk_model.specs.Valid.{birth_at}
use Rattle.fk_model.specs.Runs.{Event}

-- a path at which nothing stands, since no slot has this number
abbrev pub nowhere : Path
nowhere = 256 ∷ []

abbrev pub is_born : ℕ → Option ℕ → Bool
is_born birth None = false
is_born birth (Some found) = found == birth

-- the path of the space with a birth number; nowhere, where no space has it
unfoldable pub space_born : World → ℕ → Path
space_born w birth = unwrap_or (find (λ s. is_born birth (birth_at w s)) ([] ∷ objects w)) nowhere

-- the path of the object that a birth number and a slot name
abbrev pub named : World → Who → Path
named w who = who.slot ∷ space_born w who.space

-- a move, with what it asks for
abbrev pub event_of : World → Ask → Move → Event
event_of w ask move = record { mover = named w move.who; pick = option_map (named w) move.pick; ask = ask }
