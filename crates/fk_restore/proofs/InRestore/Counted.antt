-- What stands in rooms, one room after the other.
use Rattle.std.proofs.Common.{◌≡◌, ℕ, zero, suc, cond, ne_eqb, ◌+◌, ◌<◌, ◌≤◌, ◌==◌, List, [], ◌∷◌, drop, length, map, Option, Some, None, refl, sym, ap, ◌∙◌}
use Rattle.std.proofs.Common.{arith}
use Rattle.std.specs.Prelude.{slice_get}
use Rattle.fk_model.specs.Places.{Path}
use Rattle.fk_image.specs.declared.image.image.ObjectRec.{ObjectRec}
use Rattle.fk_image.specs.declared.image.image.SpaceRec.{SpaceRec}
use Rattle.fk_image.specs.Image.Picture.{path_within, space_path}
use Rattle.laws_restore.specs.Restore.Restore.{beneath, objects}
use Rattle.laws_restore.specs.Rooms.Rooms.{item_of, room_of, rooms_from}
use Rattle.fk_restore.proofs.InPositions.Parted.{drop_at, drop_out}
use Rattle.fk_restore.proofs.InOrders.Lefts.{beyond}
use Rattle.fk_restore.specs.Restore.Restores.{inner}

-- every space but the first lies in another
abbrev way_up : ℕ → List SpaceRec → Option SpaceRec → Path
way_up n ss None = []
way_up n ss (Some s) = s.slot ∷ path_within n ss s.parent

way_is : (n : ℕ) (ss : List SpaceRec) (o : Option SpaceRec) → elim o [ None ↦ [] | Some s ↦ s.slot ∷ path_within n ss s.parent ] ≡ way_up n ss o
way_is n ss None = refl
way_is n ss (Some s) = refl

beneath_here : (ss : List SpaceRec) (n : ℕ) (s : SpaceRec) → slice_get ss n ≡ Some s → beneath (space_path ss n) ≡ inner n
unfolding path_within
beneath_here ss zero s here = refl
beneath_here ss (suc n) s here =
    let off = ne_eqb (suc n) 0 (λ e. omega (arith, e)) in
    (λ j. beneath (cond (off j) [] (way_is n ss (slice_get ss (suc n)) j))) ∙ ap (λ (o : Option SpaceRec). beneath (way_up n ss o)) here
    ∙ sym (ap (λ t. cond t 0 1) off)

items_counted : (ss : List SpaceRec) (os : List ObjectRec) → length (map (item_of ss) os) ≡ length os
items_counted ss [] = refl
items_counted ss (o ∷ os) = ap suc (items_counted ss os)

pub room_counted : (ss : List SpaceRec) (n : ℕ) (s : SpaceRec) → slice_get ss n ≡ Some s →
    objects (rooms_from ss n (drop n ss)) ≡ (inner n + length s.objects) + objects (rooms_from ss (n + 1) (drop (n + 1) ss))
room_counted ss n s here =
    let next : suc n ≡ n + 1 = omega arith in
    ap (λ xs. objects (rooms_from ss n xs)) (drop_at ss n s here)
    ∙ (λ j. (beneath_here ss n s here j + items_counted ss s.objects j) + objects (rooms_from ss (n + 1) (drop (next j) ss)))

pub none_counted : (ss : List SpaceRec) (n : ℕ) → slice_get ss n ≡ None → objects (rooms_from ss n (drop n ss)) ≡ 0
none_counted ss n none = ap (λ xs. objects (rooms_from ss n xs)) (drop_out ss n (beyond ss n none))
