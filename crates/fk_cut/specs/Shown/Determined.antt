-- What the lists of a cut determine.
use Rattle.std.specs.Prelude.{◌≡◌, ℕ}
use Rattle.fk_model.specs.Places.{Path}
use Rattle.fk_model.specs.World.{World}
use Rattle.fk_model.specs.Whole.{IsWhole, IsSavable}
use Rattle.fk_model.specs.Cut.{cut}
use Rattle.fk_cut.specs.declared.cuts.cutting.CutWorld.{CutWorld}
use Rattle.fk_cut.specs.Cuts.Shown.{IsShown}

-- a subtree of a world that can be saved is shown as these lists
pub record IsSavedAs (w : World) (nester : Path) (slot : ℕ) (lists : CutWorld) : Type 0 where
  pub whole : IsWhole w
  pub savable : IsSavable w
  pub shown : IsShown (cut w nester slot) lists

-- the same lists show the same cut
abbrev pub EqualListsAreEqualCuts : Type 0
EqualListsAreEqualCuts = (w v : World) (n m : Path) (i j : ℕ) (lists : CutWorld) → IsSavedAs w n i lists → IsSavedAs v m j lists →
    cut w n i ≡ cut v m j
