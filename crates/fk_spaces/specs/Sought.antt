-- Sought: spaces beneath another one that porters hold, which bar a hold.
use Rattle.std.specs.Prelude.{Bool, not, ◌&&◌}
use Rattle.std.specs.List.{list_any}
use Rattle.fk_model.specs.declared.names.Who.{Who}
use Rattle.fk_model.specs.Places.{Path, same_path}
use Rattle.fk_model.specs.Searches.{beneath}
use Rattle.fk_model.specs.SpaceRows.{has_porter, is_held_by_other}
use Rattle.fk_model.specs.World.{World}
use Rattle.fk_store.specs.Store.Contents.{Contents}
use Rattle.fk_store.specs.Store.World.{world, place_of}

-- what stands at x is one, beneath the space at s
abbrev pub is_sought_at : Contents → Path → Path → Bool
is_sought_at m s x = has_porter (world m) x && list_any (same_path x) (beneath (world m) s)

-- an object is one
abbrev pub is_sought : Contents → Path → Who → Bool
is_sought m s who = is_sought_at m s (place_of m who)

-- nobody else holds the space at x, and no porter a space beneath it
abbrev pub may_hold : World → Path → Path → Bool
may_hold w me x = not (is_held_by_other w me x) && not (list_any (has_porter w) (beneath w x))
