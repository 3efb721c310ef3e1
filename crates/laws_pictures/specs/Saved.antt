-- A subtree of a world that has an image.
use Rattle.std.specs.Prelude.{◌≡◌, ℕ, ◌≤◌, ◌<◌, ◌^◌, List, length, true, false, ◌∷◌, ◌++◌, Some, IsSome}
use Rattle.std.specs.List.{list_all}
use Rattle.fk_model.specs.declared.limits.TheConstants.{LAST_USER_SLOT}
use Rattle.fk_model.specs.Places.{Path}
use Rattle.fk_model.specs.Objects.{Thread, Window, registers_of}
use Rattle.fk_model.specs.Objects.Body.{Mapping, Thread_of}
use Rattle.fk_model.specs.World.{World}
use Rattle.fk_model.specs.Whole.{IsWhole, IsSavable}
use Rattle.fk_model.specs.Cut.{cut, is_out, IsPlain}
use Rattle.fk_model.specs.Sound.{IsUncut}
use Rattle.laws_pictures.specs.Imaged.{image_of, AreItsSpaces, IsAlone, IsSound, HasNumbers}
use Rattle.fk_image.specs.Image.Picture.{picture}
use Rattle.fk_image.specs.declared.image.image.Image.{Image}
use Rattle.fk_image.specs.Image.Ranges.{is_word}
use Rattle.fk_image.specs.Image.Valid.{is_valid}

-- what an image needs of a subtree of a world
pub record IsSavedSubtree (w : World) (nester : Path) (slot : ℕ) : Type 0 where
  pub whole : IsWhole w
  pub savable : IsSavable w
  pub uncut : IsUncut w
  pub plain : IsPlain w nester slot
  -- no porter and no scratch inside
  pub users : (k : ℕ) (q : Path) → IsSome (w.body (k ∷ (q ++ slot ∷ nester))) → k ≤ LAST_USER_SLOT
  -- no mapping inside leads to a port outside
  pub windows : (x : Path) (m : Window) → (cut w nester slot).body x ≡ Some (Mapping m) → is_out m.region ≡ false

-- a plain subtree of a whole and savable world, without porters and scratch, is such as an image needs
abbrev pub SubtreeIsSound : Type 0
SubtreeIsSound = (w : World) (nester : Path) (slot : ℕ) → IsSavedSubtree w nester slot → IsAlone (cut w nester slot) × IsSound (cut w nester slot)

-- a subtree whose numbers are in range has a valid image, whose picture it is
abbrev pub SubtreeHasImage : Type 0
SubtreeHasImage = (w : World) (nester : Path) (slot : ℕ) (sp : List Path) → IsSavedSubtree w nester slot → AreItsSpaces (cut w nester slot) sp
    → HasNumbers (cut w nester slot) → length sp < 2 ^ 32 →
    (is_valid (image_of (cut w nester slot) sp) ≡ true) × (picture (image_of (cut w nester slot) sp) ≡ cut w nester slot)

-- and words in a thread's registers are needed: no valid image's picture has others
abbrev pub PicturesHaveWords : Type 0
PicturesHaveWords = (i : Image) (x : Path) (t : Thread) → is_valid i ≡ true → (picture i).body x ≡ Some (Thread_of t)
    → list_all is_word (registers_of t.mode) ≡ true
