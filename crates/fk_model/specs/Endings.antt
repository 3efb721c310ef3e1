-- Endings: talks with native servers that a move ends.
use Rattle.std.specs.Prelude.{Bool, ◌&&◌, is_some, is_none}
use Rattle.fk_model.specs.Places.{Path}
use Rattle.fk_model.specs.World.{World}
use Rattle.fk_model.specs.Searches.{client_at}

-- the native server of a port had a client in one world, and has none in the next. Whoever moved, it hears that its talk has ended
abbrev pub has_ended : World → World → Path → Bool
has_ended w v port = is_some (client_at w port) && is_none (client_at v port)
