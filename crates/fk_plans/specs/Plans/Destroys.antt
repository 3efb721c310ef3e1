-- Destroys: an object goes, with all that ends with it.
use Rattle.std.specs.Prelude.{◌≡◌, Bool, false, [], if◌then◌else◌}
use Rattle.fk_model.specs.declared.names.Who.{Who}
use Rattle.fk_model.specs.ObjectRows.{kills, told_with}
use Rattle.fk_model.specs.Outcomes.{Outcome, Caller, done, stays, telling}
use Rattle.fk_model.specs.Places.{Path}
use Rattle.fk_model.specs.Searches.{has_residents}
use Rattle.fk_model.specs.Valid.{IsValid}
use Rattle.fk_model.specs.World.{World}
use Rattle.fk_store.specs.Store.Contents.{Contents}
use Rattle.fk_store.specs.Store.Paths.{path, place}
use Rattle.fk_store.specs.Store.World.{world, IsLive}

-- a native server that loses its client or its port is told; and whether the stage is done then
abbrev pub destroyed : World → Caller → Path → Bool → Outcome
destroyed w c x last = telling (told_with w x (w.body x)) (if last then done c (kills w x) [] else stays c (kills w x))

-- the object is there, and nothing stands in it
abbrev pub IsDying : Contents → Who → Type 0
IsDying m object = IsValid (world m) × IsLive m object × (has_residents (world m) (place (path m) object) ≡ false)
