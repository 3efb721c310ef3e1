-- Words: what is there where an address leads.
use Rattle.std.specs.Prelude.{IsSome, ⊤}
use Rattle.fk_store.specs.declared.store.reach.Reach.{Reach}
use Rattle.fk_store.specs.declared.store.reach.Reach.TheVariants.{Home, Missing, Bad}
use Rattle.fk_store.specs.Store.Contents.{Contents}
use Rattle.fk_store.specs.Store.Paths.{path}
use Rattle.fk_store.specs.Store.Named.{Each}
use Rattle.fk_store.specs.Store.World.{world, IsLive, IsSpace}

-- the page that answers is there, with its space, and so is the keeper of a page that is missing
abbrev pub IsReached : Contents → Reach → Type 0
IsReached m (Home space page) = IsSpace m space × IsSome ((world m).page (path m space) page)
IsReached m (Missing space page keeper) = Each (IsLive m) keeper
IsReached m Bad = ⊤
