-- The order of an image's spaces, read off the records: a space has the number of its place in the list, comes behind its parent and
-- behind all that lies beneath its earlier brothers, and brothers come by rising slot.
use Rattle.std.specs.Prelude.{◌≡◌, ◌<◌, ℕ, suc, ◌-◌, List, length, take, Some, None, slice_get}
use Rattle.fk_image.specs.declared.image.image.SpaceRec.{SpaceRec}
use Rattle.fk_image.specs.Image.Links.{kind_in_space}

-- the space with this number lies in a slot of its parent; the first space lies in none
pub record LiesIn (spaces : List SpaceRec) (parent slot number : ℕ) : Type 0 where
  pub space : SpaceRec
  pub inner : 0 < number
  pub there : slice_get spaces number ≡ Some space
  pub parent_is : space.parent ≡ parent
  pub slot_is : space.slot ≡ slot

-- the space with this number is another one, or lies beneath it
pub data IsWithin (spaces : List SpaceRec) (top : ℕ) : ℕ → Type 0 where
  Itself : IsWithin spaces top top
  Beneath : (parent slot number : ℕ) → LiesIn spaces parent slot number → IsWithin spaces top parent → IsWithin spaces top number

-- a space may come right behind these
pub record Follows (before : List SpaceRec) (s : SpaceRec) : Type 0 where
  -- the last of them is its parent, or lies beneath its parent
  pub parent : IsWithin before s.parent (length before - 1)
  -- its brothers among them have lower slots
  pub rises : (slot number : ℕ) → LiesIn before s.parent slot number → slot < s.slot
  -- its parent has no object in its slot
  pub free : kind_in_space before s.parent s.slot ≡ None

-- each space but the first may come right behind those before it
abbrev pub AreInOrder : List SpaceRec → Type 0
AreInOrder spaces = (n : ℕ) (s : SpaceRec) → slice_get spaces (suc n) ≡ Some s → Follows (take (suc n) spaces) s
