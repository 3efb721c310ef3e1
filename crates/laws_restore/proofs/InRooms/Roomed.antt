-- The rooms of a valid image list its picture.
use Rattle.std.proofs.Common.{◌≡◌, ℕ, true, [], refl}
use Rattle.std.specs.List.{flat_map}
use Rattle.std.proofs.lemmas.Bool.{and_parts}
use Rattle.fk_image.specs.declared.image.image.Image.{Image}
use Rattle.fk_image.specs.Image.Links.{spaces_lead, all_lead, space_peers, are_fresh}
use Rattle.fk_image.specs.Image.Picture.{picture}
use Rattle.fk_image.specs.Image.Valid.{fits_spaces, is_valid}
use Rattle.laws_restore.specs.Restore.Roomed.{IsRoomed, with_spaces}
use Rattle.laws_pictures.specs.Tree.{IsTree, IsFull}
use Rattle.laws_pictures.proofs.Trees.{valid_is_tree}
use Rattle.laws_restore.specs.Rooms.Rooms.{IsBinding, rooms_from, rooms_of, ValidIsRoomed}
use Rattle.laws_restore.proofs.InRooms.Beneath.{fits_nested}
use Rattle.laws_restore.proofs.InRooms.Spaces.{all_spaces}
use Rattle.laws_restore.proofs.InRooms.Filled.{all_rooms, nothing_else, no_other_page}
use Rattle.laws_restore.proofs.InRooms.Served.{one_service, one_each}

roomed : (bind : ℕ → ℕ) (i : Image) → IsBinding bind → IsTree i.spaces × IsFull i.spaces → fits_spaces i.spaces ≡ true → all_lead i.spaces ≡ true
    → IsRoomed bind (picture i) (rooms_of i)
unfolding picture
roomed bind i low good fits leads =
    let tree = good.0 in
    let full = good.1 in
    let both = and_parts (spaces_lead i.spaces 0 i.spaces) (are_fresh [] (flat_map space_peers i.spaces)) leads in
    let nested = fits_nested i.spaces fits in
    let spaces = all_spaces i tree full nested both.0 bind low i.spaces refl in
    let made = with_spaces (rooms_from i.spaces 0 i.spaces) [] in
    record {
      root = refl;
      unborn = refl;
      binds = low;
      spaces = spaces.0;
      filled = all_rooms i tree full both.0 bind low made spaces.1.came spaces.1.all;
      whole = nothing_else i tree full both.0 bind low made spaces.1.all;
      one_service = one_service i tree full both.0 both.1;
      one_each = one_each i tree full both.0 both.1;
      pages = no_other_page i tree full both.0 bind low;
    }

pub valid_is_roomed : ValidIsRoomed
unfolding is_valid
valid_is_roomed bind i low valid = let both = and_parts (fits_spaces i.spaces) (all_lead i.spaces) valid in
    roomed bind i low (valid_is_tree i valid) both.0 both.1
