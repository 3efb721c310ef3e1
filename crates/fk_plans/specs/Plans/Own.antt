-- Own: pages of the caller's own memory.
use Rattle.std.specs.Prelude.{ℕ, IsSome}
use Rattle.fk_store.specs.Store.Contents.{Contents}
use Rattle.fk_store.specs.Store.Paths.{path}
use Rattle.fk_store.specs.Store.World.{world, IsSpace}

-- a page that is there, in a space that is there
abbrev pub IsPage : Contents → ℕ × ℕ → Type 0
IsPage m page = IsSpace m page.0 × IsSome ((world m).page (path m page.0) page.1)
