-- The rooms of an image: its spaces in its own order, each with its objects and pages, as its picture has them.
use Rattle.std.specs.Prelude.{◌≡◌, ℕ, ◌+◌, ◌≤◌, true, List, [], ◌∷◌, map}
use Rattle.fk_model.specs.declared.limits.TheConstants.{LAST_USER_SLOT}
use Rattle.fk_image.specs.declared.image.image.ObjectRec.{ObjectRec}
use Rattle.fk_image.specs.declared.image.image.PageRec.{PageRec}
use Rattle.fk_image.specs.declared.image.image.SpaceRec.{SpaceRec}
use Rattle.fk_image.specs.declared.image.image.Image.{Image}
use Rattle.fk_image.specs.Image.Picture.{space_path, pictured_holder, pictured_body, picture}
use Rattle.fk_image.specs.Image.Valid.{is_valid}
use Rattle.laws_restore.specs.Restore.Rooms.{Item, Sheet, Room}
use Rattle.laws_restore.specs.Restore.Roomed.{IsRoomed}

abbrev pub item_of : List SpaceRec → ObjectRec → Item
item_of spaces o = record { slot = o.slot; body = pictured_body spaces o.body }

abbrev pub sheet_of : PageRec → Sheet
sheet_of p = record { number = p.page; words = p.words }

abbrev pub room_of : List SpaceRec → ℕ → SpaceRec → Room
room_of spaces number s = record {
  path = space_path spaces number;
  holder = pictured_holder spaces s.holder;
  items = map (item_of spaces) s.objects;
  sheets = map sheet_of s.pages;
}

-- those of the spaces from a number on
abbrev pub rooms_from : List SpaceRec → ℕ → List SpaceRec → List Room
rooms_from spaces number [] = []
rooms_from spaces number (s ∷ ss) = room_of spaces number s ∷ rooms_from spaces (number + 1) ss

-- the spaces of an image with what stands in each, as a restore makes them
abbrev pub rooms_of : Image → List Room
rooms_of i = rooms_from i.spaces 0 i.spaces

-- users' slots are bound to users' slots
abbrev pub IsBinding : (ℕ → ℕ) → Type 0
IsBinding bind = (slot : ℕ) → slot ≤ LAST_USER_SLOT → bind slot ≤ LAST_USER_SLOT

-- the rooms of a valid image list its picture, such as a restorer asks for: each valid image can be built
abbrev pub ValidIsRoomed : Type 0
ValidIsRoomed = (bind : ℕ → ℕ) (i : Image) → IsBinding bind → is_valid i ≡ true → IsRoomed bind (picture i) (rooms_of i)
