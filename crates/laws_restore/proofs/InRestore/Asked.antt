-- Where the script asks for a port: all of the picture's objects stand, and only the script's own scratch.
use Rattle.std.proofs.Common.{◌≡◌, ℕ, ◌≤◌, true, false, eqb, IsSome, List, None}
use Rattle.std.specs.List.{list_any}
use Rattle.fk_model.specs.declared.limits.TheConstants.{LAST_USER_SLOT}
use Rattle.fk_model.specs.Places.{Path}
use Rattle.fk_model.specs.World.{World}
use Rattle.laws_restore.specs.Sites.Orders.{Site}
use Rattle.laws_restore.specs.Sites.Orders.Pin.{NoPin}
use Rattle.laws_restore.specs.Restore.Rooms.{Room}
use Rattle.laws_restore.specs.Restore.Fits.{there}
use Rattle.laws_restore.specs.Restore.Script.{P, T, U, D, has, leads_out}

-- slot j of the nester is asked for a port, for some slot of the image
pub record IsAsked (bind : ℕ → ℕ) (c : World) (rooms : List Room) (j : ℕ) (g : Site) : Type 0 where
  pub port : ℕ
  pub low : port ≤ LAST_USER_SLOT
  pub leads : list_any (has (leads_out port)) rooms ≡ true
  pub bound : bind port ≡ j
  pub stands : (y : Path) → there g.built y ≡ there c y
  pub at : IsSome (g.spot P)
  pub t : IsSome (g.spot T)
  pub u : IsSome (g.spot U)
  pub dead : IsSome (g.spot D)
  pub none : (k : ℕ) → eqb k P ≡ false → eqb k T ≡ false → eqb k U ≡ false → eqb k D ≡ false → g.spot k ≡ None
  pub pin : g.pin ≡ NoPin → ⊥
