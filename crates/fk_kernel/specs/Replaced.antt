-- Replaced: a world in which a thread and some pages have got other words.
use Rattle.std.specs.Prelude.{◌≡◌, ℕ, List, [], ◌∷◌, Some, IsSome}
use Rattle.fk_model.specs.declared.names.Who.{Who}
use Rattle.fk_model.specs.Objects.Mode.{Running}
use Rattle.fk_model.specs.Places.{Path}
use Rattle.fk_model.specs.Valid.{birth_at}
use Rattle.fk_model.specs.Who.{named, space_born}
use Rattle.fk_model.specs.World.{World, apply}
use Rattle.fk_model.specs.World.Change.{Alter, PutPage}
use Rattle.fk_model.specs.World.Edit.{Proceed}
use Rattle.fk_kernel.specs.declared.replace.BurstPage.{BurstPage}

-- the space is there, where spaces have these paths, and has that page
abbrev pub IsPageThere : (ℕ → Path) → World → BurstPage → Type 0
IsPageThere path w p = (birth_at w (path p.space) ≡ Some p.space) × IsSome (w.page (path p.space) p.page)

-- the pages have got their words, one after the other
unfoldable pub rewritten : (ℕ → Path) → List BurstPage → World → World
rewritten path [] w = w
rewritten path (p ∷ ps) w = rewritten path ps (apply (PutPage (path p.space) p.page p.words) w)

-- and the thread goes on with these registers at this counter
abbrev pub replaced : World → Who → List ℕ → ℕ → List BurstPage → World
replaced w who registers counter pages = apply (Alter (named w who) (Proceed (Running registers) counter)) (rewritten (space_born w) pages w)
