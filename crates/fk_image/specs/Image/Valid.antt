-- Valid images: those that have a spelling and whose pointers lead to what their fields may hold.
use Rattle.std.specs.Prelude.{ℕ, ◌+◌, ◌^◌, Bool, true, false, not, ◌&&◌, ◌==◌, nat_lt, List, [], ◌∷◌, length, is_some}
use Rattle.fk_image.specs.declared.image.image.Link.{Link}
use Rattle.fk_image.specs.declared.image.image.Link.TheVariants.{Null}
use Rattle.fk_image.specs.declared.image.image.ObjectRec.{ObjectRec}
use Rattle.fk_image.specs.declared.image.image.PageRec.{PageRec}
use Rattle.fk_image.specs.declared.image.image.SpaceRec.{SpaceRec}
use Rattle.fk_image.specs.declared.image.image.Image.{Image}
use Rattle.fk_image.specs.declared.image.open.Open.{Open}
use Rattle.fk_image.specs.Image.Ranges.{is_slot, is_byte, is_half, are_words, fits_link, fits_body}
use Rattle.fk_image.specs.Image.Preorder.{has_room, room_under, root_path, after_space}
use Rattle.fk_image.specs.Image.Links.{kind_in_space, all_lead}

-- each item fits what the items before it left
abbrev pub all_from : {S X : Type 0} → (S → X → S) → (S → X → Bool) → S → List X → Bool
all_from next fits s [] = true
all_from next fits s (x ∷ xs) = fits s x && all_from next fits (next s x) xs

-- slots and page numbers rise: the next is at least one more than the last
abbrev pub fits_object : ℕ → ObjectRec → Bool
fits_object floor o = is_slot o.slot && not (nat_lt o.slot floor) && fits_body o.body

abbrev pub after_object : ℕ → ObjectRec → ℕ
after_object floor o = o.slot + 1

abbrev pub fits_page : ℕ → PageRec → Bool
fits_page floor p = is_byte p.page && not (nat_lt p.page floor) && are_words 64 p.words

abbrev pub after_page : ℕ → PageRec → ℕ
after_page floor p = p.page + 1

-- objects are in range and stand by rising slot
abbrev pub fits_objects : List ObjectRec → Bool
fits_objects objects = is_half (length objects) && all_from after_object fits_object 0 objects

-- pages are full and stand by rising number
abbrev pub fits_pages : List PageRec → Bool
fits_pages pages = is_half (length pages) && all_from after_page fits_page 0 pages

abbrev pub is_null : Link → Bool
is_null Null = true
is_null other = false

-- the first space is the subtree's root
abbrev pub is_first : SpaceRec → Bool
is_first s = s.parent == 4294967295 && s.slot == 0 && is_null s.holder

-- behind the spaces `done` a space follows in preorder, in a slot that its parent gave to no object
abbrev pub is_next : List SpaceRec → List Open → SpaceRec → Bool
is_next done path s =
    nat_lt s.parent (2 ^ 32)
    && is_slot s.slot && has_room (room_under path s.parent) s.slot && not (is_some (kind_in_space done s.parent s.slot)) && fits_link s.holder

abbrev pub stands_in_order : List SpaceRec → List Open → SpaceRec → Bool
stands_in_order [] path s = is_first s
stands_in_order (d ∷ done) path s = is_next (d ∷ done) path s

abbrev pub fits_space : List SpaceRec × List Open → SpaceRec → Bool
fits_space before s = stands_in_order before.0 before.1 s && fits_objects s.objects && fits_pages s.pages

abbrev pub fits_spaces : List SpaceRec → Bool
fits_spaces spaces = nat_lt 0 (length spaces) && nat_lt (length spaces) (2 ^ 32) && all_from after_space fits_space ([], root_path) spaces

-- an image is valid: its numbers fit their fields, its spaces stand in order, and each pointer leads to what its field may hold
unfoldable pub is_valid : Image → Bool
is_valid i = fits_spaces i.spaces && all_lead i.spaces
